pub mod World
pub mod Contents
pub mod Tidy
pub mod Storage
pub mod Made
pub mod Mapped
pub mod WaitLists
pub mod Filed
