-- What each call has to show of its decision.
pub mod CallWays
pub mod CallDuties
pub mod UsrvarDuty
pub mod LogoutDuty
pub mod TtyDuty
pub mod FileDuty
pub mod SiotDuty
pub mod UsrDuty
pub mod LinkDuty
pub mod DeviceDuty
pub mod CoreDuty
pub mod GivenLaws
pub mod FitLaws
