pub mod Files
pub mod Output
