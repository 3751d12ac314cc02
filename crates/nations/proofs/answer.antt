-- Laws on the listed nations, their entries, and the rows that are written.
pub mod EntryLaws
pub mod LivesLaws
pub mod ListedLaws
pub mod NationsLaws
pub mod NationSizeLaws
pub mod NationOutcomeLaws
pub mod FrontLaws
pub mod ArmLaws
pub mod AnswerLaws
