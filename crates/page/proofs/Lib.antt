pub mod HostLaws
pub mod LedgersLaws
pub mod PlayingLaws
