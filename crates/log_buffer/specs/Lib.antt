pub mod Meaning
pub mod Valid
