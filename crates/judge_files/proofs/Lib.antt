pub mod OutputLaws
pub mod Whole
