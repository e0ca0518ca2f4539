pub mod Truth
pub mod Bits
pub mod Laws
pub mod Agree
pub mod Below
pub mod ChartLaws
