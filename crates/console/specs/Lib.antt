pub mod Lines
pub mod Limits
pub mod Accounts
pub mod Inputs
