pub mod LinkLaws
pub mod LastLaws
