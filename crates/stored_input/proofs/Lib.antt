pub mod BlockLaws
mod CaseLaws
mod NumberedLaws
pub mod NumberLaws
pub mod ReadLaws
pub mod ReplayLaws
pub mod TallyLaws
