pub mod HopeLaws
