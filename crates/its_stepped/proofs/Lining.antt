-- A line of a session is the same on the stepped machine and on its plain machine.
pub mod DueLaws
pub mod StartLaws
pub mod LiftLaws
pub mod RestoredLaws
pub mod LineLaws
pub mod KeptLaws
pub mod RefusalLaws
pub mod AfterLaws
pub mod LineExamples
