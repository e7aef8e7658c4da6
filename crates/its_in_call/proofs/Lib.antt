pub mod StepLaws
pub mod ValueLaws
