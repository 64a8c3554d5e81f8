pub mod Stretch
pub mod Stretches
pub mod Walk
pub mod Left
pub mod Figures
pub mod Texts
