pub mod Tasks
pub mod Minima
pub mod Subtrees
pub mod Subspaces
pub mod Rounds
pub mod Statements
