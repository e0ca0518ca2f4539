pub mod Answer
pub mod Refused
pub mod Promise
pub mod inner
