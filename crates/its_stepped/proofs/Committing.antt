-- The commit of a call is the step of the plain machine.
pub mod HelpLaws
pub mod EffectLaws
pub mod ViewLaws
pub mod CommitLaws
pub mod CommitSound
pub mod TestLaws
pub mod ChannelLaws
pub mod TargetLaws
pub mod CallLaws
pub mod UnseenLaws
pub mod TriedLaws
