pub mod TextLaws
pub mod Refused
pub mod Stays
