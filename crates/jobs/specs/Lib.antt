pub mod Trees
pub mod Jobs
