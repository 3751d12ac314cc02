-- Laws on the slots: who holds them, change by change, and on all tables together.
pub mod ChainLaws
pub mod TurningLaws
pub mod CellLaws
pub mod SlotPassLaws
pub mod StartingLaws
pub mod TableStepLaws
pub mod ChangeCellLaws
pub mod HoldersLaws
pub mod GatheringLaws
pub mod RoomLaws
