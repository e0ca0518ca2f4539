pub mod ByteLaws
pub mod LinkLaws
