pub mod Asked
pub mod Index
pub mod LentSlices
pub mod PointSteps
pub mod RowLedgers
pub mod RowOutcomes
pub mod SpanSteps
