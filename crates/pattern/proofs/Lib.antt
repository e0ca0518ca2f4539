pub mod AcceptedLaws
pub mod ReadingLaws
pub mod Refused
pub mod Stays
