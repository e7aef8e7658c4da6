pub mod StateLine
pub mod Building
pub mod Saving
pub mod WellFormed
pub mod GoingOn
pub mod Text
pub mod Readable
pub mod Narrow
