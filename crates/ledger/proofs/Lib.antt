pub mod IndexLaws
pub mod LedgerLaws
pub mod NationLaws
pub mod LedgerOutcomeLaws
pub mod ReadLaws
pub mod FilledLaws
pub mod FillsLaws
pub mod SpanLaws
