pub mod HeaderLaws
pub mod MalformedLaws
pub mod Causes
