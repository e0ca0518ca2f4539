pub mod LaneSets
