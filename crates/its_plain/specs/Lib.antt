pub mod Machine
pub mod Unit
pub mod Call
pub mod Operator
pub mod Transcript
pub mod Promise
