-- Unwinding a job to user mode changes nothing that the plain machine has.
pub mod RowLaws
pub mod UnwindRows
pub mod EndingRows
pub mod UnwindLaws
