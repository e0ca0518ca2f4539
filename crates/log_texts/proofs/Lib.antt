pub mod StepLaws
pub mod StepPlaces
pub mod LogText
pub mod LogBuffers
