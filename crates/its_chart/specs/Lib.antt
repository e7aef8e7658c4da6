pub use Rattle.arrayvec.specs.ArrayVec
pub mod Text
pub mod Mnemonic
pub mod TypeOut
pub mod Table
pub mod Reading
