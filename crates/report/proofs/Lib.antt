pub mod RowsLaws
pub mod Fits
