pub mod PartLaws
pub mod WritableLaws
pub mod CellLaws
pub mod RowLaws
pub mod WritingLaws
pub mod ApartLaws
pub mod BoundLaws
pub mod KeepingLaws
