pub mod Item
pub mod Links
pub mod Tree
pub mod Refusals
