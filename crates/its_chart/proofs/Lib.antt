pub mod CutLaws
pub mod BytesLaws
pub mod ChartLaws
pub mod NameLaws
pub mod OperandLaws
pub mod TypedLaws
pub mod TableLaws
