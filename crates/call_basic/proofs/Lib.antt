pub mod ReachLaws
pub mod RawLaws
pub mod ChannelLaws
pub mod StopLaws
pub mod PartLaws
pub mod Groups
