pub mod Spelling
pub mod Replaying
