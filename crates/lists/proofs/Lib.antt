pub mod Tables
pub mod Parts
pub mod LeftmostLaws
pub mod FilledLaws
