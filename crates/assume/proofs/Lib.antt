pub mod Laws
pub mod Below
pub mod Same
pub mod Grows
pub mod Steps
pub mod Both
pub mod Idle
