pub mod BufferLaws
pub mod LinesLaws
pub mod ItemsLaws
pub mod TextsLaws
pub mod Groups
