pub mod PassSteps
pub mod Made
