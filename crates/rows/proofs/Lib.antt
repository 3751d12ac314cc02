pub mod RowAtLaws
pub mod LentShapeLaws
pub mod NumberedLaws
pub mod HistoryLaws
pub mod WalkLaws
