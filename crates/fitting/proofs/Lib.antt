pub mod Owning
pub mod Holding
