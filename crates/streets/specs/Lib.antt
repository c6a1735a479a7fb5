pub mod Meaning
pub mod Lists
pub mod Sounds
