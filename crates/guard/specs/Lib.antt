pub mod Condition
pub mod Guard
