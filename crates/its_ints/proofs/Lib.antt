pub mod TableLaws
pub mod PendingLaws
