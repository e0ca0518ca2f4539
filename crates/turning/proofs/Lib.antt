pub mod EnterLaws
pub mod TurnLaws
