pub mod ByteLaws
pub mod ChainLaws
pub mod MakingLaws
pub mod ReadLaws
pub mod SeriesLaws
pub mod NearLaws
pub mod Groups
