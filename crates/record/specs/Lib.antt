pub mod Narrow
pub mod Width
pub mod Cursors
pub mod Told
pub mod Opened
