pub mod Through
pub mod RunRecorded
