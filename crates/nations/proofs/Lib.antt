pub mod WalkLaws
pub mod MergeEntryLaws
pub mod ListedNationLaws
pub mod WrittenNationLaws
pub mod NationRoomLaws
pub mod answer
