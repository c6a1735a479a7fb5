pub mod Closure
pub mod Rides
pub mod Scores
pub mod Orders
