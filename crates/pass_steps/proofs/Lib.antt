pub mod BeginLaws
pub mod AdvanceLaws
pub mod FindLaws
