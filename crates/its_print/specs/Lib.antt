pub mod Printing
pub mod Sizes
pub mod Runs
pub mod Replies
