pub mod Call
pub mod Perform
pub mod Retain
pub mod Guard
