pub mod Listing
pub mod Causes
pub mod Located
pub mod Faults
