pub mod Owed
pub mod Apart
pub mod Parts
pub mod Pages
