pub mod Halving
pub mod Places
