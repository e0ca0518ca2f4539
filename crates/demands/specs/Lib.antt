pub mod Demands
pub mod Promise
