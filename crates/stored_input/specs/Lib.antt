pub mod Reading
pub mod Replaying
pub mod Tallying
