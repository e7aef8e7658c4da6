pub mod Written
pub mod Rows
pub mod Keeping
pub mod Writable
pub mod Parts
