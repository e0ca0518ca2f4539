pub mod PrefixPhase
pub mod MarkLaws
