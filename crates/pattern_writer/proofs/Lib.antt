pub mod HeaderLaws
pub mod WriteLaws
