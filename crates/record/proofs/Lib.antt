pub mod Little
pub mod Parts
pub mod Steps
pub mod Within
