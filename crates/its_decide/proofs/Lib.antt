pub mod SiotLaws
pub mod FileLaws
pub mod InferiorLaws
pub mod PageLaws
pub mod ReachLaws
pub mod LinkLaws
pub mod Groups
