pub mod LineLaws
pub mod Listing
