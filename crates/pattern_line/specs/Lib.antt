pub mod Line
pub mod Answers
