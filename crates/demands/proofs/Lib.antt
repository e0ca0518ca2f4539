pub mod Demands
pub mod Exchanges
pub mod Whole
pub mod Cases
pub mod CasesOfPasts
pub mod Promise
pub mod Bytes
