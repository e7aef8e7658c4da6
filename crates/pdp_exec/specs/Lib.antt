pub mod Answer
pub mod Ready
pub mod Stores
pub mod Units
pub mod Near
