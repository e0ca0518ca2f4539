pub mod PutLaws
pub mod Then
