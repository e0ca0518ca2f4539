pub mod TestLaws
pub mod Sound
pub mod Meaning
