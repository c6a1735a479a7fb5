pub mod Stops
pub mod Scores
pub mod Turns
