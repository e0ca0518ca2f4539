pub mod Walked
pub mod Search
