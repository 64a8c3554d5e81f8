pub mod Live
pub mod Session
