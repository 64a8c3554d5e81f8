pub mod Fault
pub mod Convert
pub mod Restore
pub mod First
