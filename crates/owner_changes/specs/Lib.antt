pub mod ChangeSteps
pub mod Giving
pub mod RowSteps
