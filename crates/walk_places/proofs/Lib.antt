pub mod PivotLaws
pub mod WalkLaws
pub mod PlaceLaws
pub mod SearchLaws
