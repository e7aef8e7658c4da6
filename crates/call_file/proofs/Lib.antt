pub mod RawLaws
pub mod HeldLaws
pub mod SeenLaws
pub mod Groups
