-- A job in a call, read through its frame.
pub mod FrameLaws
pub mod DebtLaws
pub mod PageLaws
pub mod OverLaws
pub mod OwnLaws
pub mod OwedLaws
pub mod MarkLaws
pub mod DecodingLaws
pub mod PcLaws
pub mod TwoLaws
