pub mod Heads
pub mod Foremost
pub mod Onward
