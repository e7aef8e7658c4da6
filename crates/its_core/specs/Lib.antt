pub mod Cores
pub mod Frames
pub mod Pool
