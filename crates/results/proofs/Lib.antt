pub mod Rows
pub mod RowPlaces
pub mod JudgeLaws
