pub mod Asked
pub mod Lists
pub mod Turns
pub mod Kept
