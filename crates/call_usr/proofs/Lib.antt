pub mod OtherLaws
pub mod NameLaws
