pub mod ClearLaws
pub mod TreeLaws
pub mod TableLaws
pub mod Groups
