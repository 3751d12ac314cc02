pub mod FinishedRows
