pub mod Kept
pub mod Filing
pub mod Peeking
pub mod Rung
pub mod Settled
pub mod Restoring
