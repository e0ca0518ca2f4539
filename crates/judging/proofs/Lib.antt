pub mod Calls
pub mod FitLaws
pub mod CallLaws
