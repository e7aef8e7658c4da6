pub mod BlockLaws
pub mod ArgumentLaws
pub mod AskLaws
pub mod Groups
