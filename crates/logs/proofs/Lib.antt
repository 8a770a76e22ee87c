pub mod RowLists
pub mod Flips
pub mod FlipWords
pub mod ChangedRows
pub mod Sheets
