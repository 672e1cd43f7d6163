pub mod Option
pub mod Value
pub mod Step
pub mod Division
