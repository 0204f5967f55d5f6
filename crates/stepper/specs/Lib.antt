pub mod Instructions
pub mod Steps
pub mod StepLaws
pub mod Examples
