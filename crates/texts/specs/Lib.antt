pub mod Cut
pub mod Numbers
pub mod Tokens
pub mod Means
pub mod Rules
pub mod Rows
