pub mod Interval
pub mod Step
