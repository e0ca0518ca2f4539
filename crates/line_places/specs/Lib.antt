pub mod Place
pub mod Fault
