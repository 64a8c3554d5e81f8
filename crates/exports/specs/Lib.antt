pub mod Exports
pub mod State
pub mod Look
pub mod Places
