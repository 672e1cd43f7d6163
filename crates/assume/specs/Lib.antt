pub mod Limits
pub mod Refine
pub mod Assume
pub mod Narrowing
pub mod Sides
