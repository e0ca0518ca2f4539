pub mod BufferLaws
pub mod BufferFacts
pub mod AcceptedLaws
pub mod LineLaws
pub mod Listing
