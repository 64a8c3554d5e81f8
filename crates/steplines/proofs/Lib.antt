pub mod Fields
pub mod Numbers
pub mod Readings
pub mod Lines
pub mod Claims
pub mod Examples
