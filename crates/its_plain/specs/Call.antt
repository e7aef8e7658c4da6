-- The calls of the monitor: their decoding, what each decides, and what its commit does.
-- No promise rests on this.
pub mod Decode
pub mod Footprint
pub mod Arguments
pub mod Tests
pub mod Basic
pub mod Decide
pub mod Transfer
pub mod Tty
pub mod File
pub mod Usr
pub mod Link
pub mod Core
pub mod Moves
pub mod Device
pub mod Reasons
pub mod Step
