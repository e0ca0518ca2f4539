pub mod Dag
pub mod Automaton
pub mod Necklace
pub mod Past
pub mod Compute
pub mod Listed
pub mod Tests
pub mod inner
