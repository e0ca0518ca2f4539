pub mod GatherLaws
pub mod PutLaws
