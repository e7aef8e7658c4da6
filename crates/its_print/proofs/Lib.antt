pub mod LongestLine
pub mod LineLaws
pub mod PutLaws
pub mod ConstantLaws
