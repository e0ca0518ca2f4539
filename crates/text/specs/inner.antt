-- Definitions for the code's own steps: no exported contract and no theorem of the README needs them.
pub mod Faults
