pub mod Jobs
pub mod Tasks
pub mod Turns
pub mod Laws
