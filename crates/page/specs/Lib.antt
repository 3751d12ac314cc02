pub mod Host
pub mod Inner
pub mod Playing
pub mod Resolving
