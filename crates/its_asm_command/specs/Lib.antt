pub mod Written
pub mod Image
pub mod Past
pub mod Text
pub mod Made
pub mod Loading
