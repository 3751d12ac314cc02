pub mod AtHand
pub mod Walking
pub mod Passes
