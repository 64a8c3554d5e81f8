pub mod Fault
pub mod Lengths
pub mod Pass
pub mod Restore
pub mod Stepping
pub mod Writing
pub mod Answers
pub mod First
