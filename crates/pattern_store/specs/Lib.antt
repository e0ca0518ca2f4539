pub mod Next
pub mod Format
pub mod Buffer
pub mod inner
