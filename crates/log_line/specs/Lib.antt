pub mod Header
pub mod Step
pub mod Format
pub mod Answers
pub mod inner
