pub mod Left
pub mod Calls
pub mod Errors
pub mod Variables
