pub mod Sets
pub mod Chart
