pub mod Bounding
pub mod Picking
