pub mod PipeLaws
pub mod SweepLaws
