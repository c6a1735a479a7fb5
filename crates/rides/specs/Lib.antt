pub mod Cells
pub mod PairTables
pub mod Rounds
