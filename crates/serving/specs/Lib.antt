pub mod Serving
pub mod Going
