pub mod Frame
pub mod Unwinding
pub mod Lining
pub mod Committing
pub mod Keeping
pub mod Ticking
pub mod Running
pub mod Duties
