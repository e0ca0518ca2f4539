pub mod Before
pub mod Placed
