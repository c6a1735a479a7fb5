pub mod Keeping
pub mod Leasts
pub mod Stepping
pub mod Starting
pub mod Splitting
pub mod Parting
