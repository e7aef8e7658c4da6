-- What every step and every line of the plain machine keeps.
pub mod JoinedLaws
pub mod ClockLaws
pub mod ForestLaws
pub mod RestoredLaws
pub mod AddressLaws
pub mod ConsoledLaws
pub mod AlarmLaws
