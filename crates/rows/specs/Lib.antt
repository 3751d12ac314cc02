pub mod RowAt
pub mod HistoryAt
