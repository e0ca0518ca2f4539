pub mod JudgedLaws
pub mod LinesLaws
