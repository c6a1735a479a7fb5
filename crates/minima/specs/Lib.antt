pub mod Tables
pub mod Boards
