pub mod RowLaws
pub mod Meaning
