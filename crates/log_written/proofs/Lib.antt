pub mod ReadBack
pub mod Cases
pub mod Bytes
