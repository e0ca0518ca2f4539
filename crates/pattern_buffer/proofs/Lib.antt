pub mod Places
pub mod Nexts
pub mod OneNext
pub mod Meaning
pub mod Nested
