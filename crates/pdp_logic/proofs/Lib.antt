pub mod CountLaws
pub mod ShiftLaws
pub mod SignLaws
