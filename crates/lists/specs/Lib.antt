pub mod Tables
pub mod Places
pub mod Leftmost
pub mod inner
