pub mod LineLaws
pub mod TextLaws
