pub mod ServingLaws
