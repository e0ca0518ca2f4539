pub mod StateLine
pub mod inner
