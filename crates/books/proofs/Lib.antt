pub mod Passes
pub mod Saying
pub mod Keeping
