pub mod Walks
pub mod Between
pub mod Job
pub mod Plans
pub mod Computed
pub mod Laws
