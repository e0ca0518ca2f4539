pub mod OrderLaws
pub mod NextLaws
