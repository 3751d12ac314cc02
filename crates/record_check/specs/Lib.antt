pub mod Bitset
pub mod Accepted
pub mod Few
pub mod Tables
pub mod Sections
