pub mod Waiting
pub mod Holding
