pub mod WaitsLaws
pub mod TickLaws
pub mod ReachLaws
pub mod NeedsLaws
pub mod HelpLaws
pub mod TrialLaws
pub mod PageLaws
pub mod CallLaws
pub mod UserLaws
pub mod SparedLaws
pub mod BesideLaws
pub mod FramesLaws
pub mod StepsLaws
pub mod RunningLaws
pub mod WaitingLaws
mod PartLaws
mod ByteLaws
mod DueLaws
pub mod Groups
