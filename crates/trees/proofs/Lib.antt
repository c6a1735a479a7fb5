pub mod Lift
pub mod Picks
pub mod Bounds
pub mod Firsts
pub mod Subtrees
pub mod Rounds
pub mod Choosing
pub mod Together
