pub mod Taking
pub mod Shows
