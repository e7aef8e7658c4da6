pub mod Bytes
pub mod Limits
pub mod Lines
pub mod Items
pub mod TextLines
pub mod Texts
