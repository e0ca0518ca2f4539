pub mod PlaceLaws
pub mod FieldLaws
pub mod FoundLaws
pub mod PartLaws
pub mod MarkLaws
