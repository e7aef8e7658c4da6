pub mod TreeLaws
pub mod ClimbLaws
pub mod CircleLaws
pub mod FreeLaws
pub mod ConstantLaws
