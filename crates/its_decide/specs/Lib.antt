pub mod Seen
pub mod Called
pub mod Fits
pub mod Directory
pub mod Targets
pub mod Reach
pub mod Moving
