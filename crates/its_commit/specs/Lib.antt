pub mod Built
pub mod Removal
pub mod Carried
pub mod Pages
