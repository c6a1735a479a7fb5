pub mod CellWrites
pub mod Filling
pub mod Lesser
pub mod Rounding
pub mod Starting
pub mod Still
