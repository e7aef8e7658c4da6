-- A tick is licensed by its letter, and keeps the state sound.
pub mod TickLaws
pub mod SoundLaws
pub mod DotsLaws
pub mod WaitLaws
