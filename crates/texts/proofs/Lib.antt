pub mod Cuts
pub mod Says
pub mod Steps
pub mod Gives
