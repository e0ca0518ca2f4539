pub mod Buffer
pub mod inner
