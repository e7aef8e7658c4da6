pub mod RowLaws
pub mod UnwindingLaws
pub mod EndingLaws
pub mod BelowLaws
pub mod ApartLaws
pub mod PartLaws
pub mod Groups
