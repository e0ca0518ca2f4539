pub mod ReadBack
pub mod Cases
pub mod Stays
pub mod HeaderFault
