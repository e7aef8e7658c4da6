pub mod CountLaws
pub mod RingLaws
pub mod WalkLaws
pub mod AgreeLaws
pub mod CallLaws
