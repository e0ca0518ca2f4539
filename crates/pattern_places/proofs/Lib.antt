pub mod HeaderLaws
pub mod ShapeLaws
