pub mod Hope
