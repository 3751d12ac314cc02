pub mod Claims
pub mod Asked
pub mod Layout
pub mod Keys
pub mod Passes
pub mod Holding
pub mod Found
