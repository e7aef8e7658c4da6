pub mod NameLaws
pub mod ErrorLaws
