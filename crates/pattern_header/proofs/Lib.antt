pub mod HeaderLaws
