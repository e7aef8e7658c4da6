pub mod RawLaws
pub mod OtherLaws
pub mod PartLaws
pub mod Groups
