pub mod Grid
pub mod Quarters
pub mod Sounds
