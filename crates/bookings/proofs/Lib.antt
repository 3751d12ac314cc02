pub mod JoiningLaws
pub mod RowsByLaws
pub mod BookingPassLaws
pub mod BookingBlockLaws
pub mod BookingOutcomeLaws
