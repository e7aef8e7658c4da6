pub mod Parts
pub mod Across
pub mod Can
pub mod Called
pub mod Refusals
pub mod Channels
pub mod Apart
