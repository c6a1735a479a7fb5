pub mod Leaders
pub mod Lent
