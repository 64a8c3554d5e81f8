pub mod Words
pub mod Calls
pub mod CabinetCalls
pub mod BenchCalls
pub mod Shown
pub mod Driven
