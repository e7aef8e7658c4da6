pub mod Kept
pub mod Waits
pub mod Ticks
pub mod Beside
pub mod Pages
pub mod Bytes
