pub mod HalvingLaws
pub mod PlaceLaws
