pub mod Fields
pub mod Numbers
pub mod StepLine
pub mod Walk
pub mod Claims
