pub mod Bitfield
pub mod Early
pub mod Turns
