pub mod Blocks
pub mod Opening
pub mod Files
