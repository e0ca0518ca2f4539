pub mod Split
pub mod Lines
pub mod Walk
pub mod FirstBad
pub mod inner
