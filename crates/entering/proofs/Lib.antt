pub mod EnterLaws
pub mod GrowLaws
