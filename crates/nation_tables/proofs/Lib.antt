pub mod tables
pub mod slots
