pub mod HoldLaws
pub mod Groups
