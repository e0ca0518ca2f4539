pub mod Result
pub mod inner
