pub mod Facts
pub mod Marks
pub mod Moved
pub mod Kept
pub mod Requests
