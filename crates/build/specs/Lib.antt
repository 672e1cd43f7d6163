pub mod Rest
pub mod Build
pub mod Step
