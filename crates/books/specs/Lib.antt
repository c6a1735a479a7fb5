pub mod Lines
pub mod Books
pub mod Sensible
pub mod Entries
