pub mod Typing
pub mod Request
pub mod Codes
