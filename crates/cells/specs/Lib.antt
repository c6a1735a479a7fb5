pub mod Cells
pub mod Comparing
