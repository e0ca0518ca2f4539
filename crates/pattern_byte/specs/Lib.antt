pub mod Byte
pub mod Header
