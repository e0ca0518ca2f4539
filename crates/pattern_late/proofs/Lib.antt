pub mod LateLaws
pub mod SlotLaws
