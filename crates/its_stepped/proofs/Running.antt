-- What holds along a whole run.
pub mod SessionLaws
pub mod UpkeepLaws
pub mod WrittenLaws
pub mod OneByteLaws
pub mod CourseLaws
pub mod StretchLaws
pub mod LinkMovesLaws
