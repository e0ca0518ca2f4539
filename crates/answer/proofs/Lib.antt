pub mod Codes
pub mod FaultLaws
pub mod FaultSteps
