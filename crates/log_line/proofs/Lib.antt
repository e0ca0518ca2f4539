pub mod PredLaws
pub mod HeaderLaws
