pub mod SaidLaws
pub mod PlaceLaws
pub mod HeaderLaws
