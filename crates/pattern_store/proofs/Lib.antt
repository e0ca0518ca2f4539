pub mod StoreLaws
pub mod RowsLaws
pub mod BufferLaws
pub mod Listing
