pub mod PrefixLaws
pub mod StartLaws
pub mod LaneLaws
