pub mod Types
pub mod Rules
pub mod Order
pub mod Sound
pub mod Answers
pub mod Valid
pub mod Compared
