pub mod SplitLaws
pub mod Spelled
pub mod LineLaws
pub mod WalkLaws
pub mod FirstBadLaws
pub mod FaultLaws
pub mod FormatLaws
