pub mod Place
pub mod inner
