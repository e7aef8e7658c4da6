pub mod Seen
pub mod Channels
pub mod Parts
