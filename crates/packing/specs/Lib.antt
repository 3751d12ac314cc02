pub mod Packing
pub mod Bounds
pub mod Framed
