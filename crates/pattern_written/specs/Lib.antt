pub mod ReadBack
pub mod HeaderFault
