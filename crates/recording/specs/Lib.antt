pub mod RunRecorded
