pub mod CountLaws
pub mod TextLaws
pub mod NarrowLaws
pub mod ToldLaws
pub mod SharedLaws
pub mod WidthLaws
