pub mod PlaceLaws
pub mod LineLaws
pub mod FaultLaws
