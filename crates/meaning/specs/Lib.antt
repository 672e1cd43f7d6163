pub mod Value
pub mod Book
pub mod Guard
pub mod Program
pub mod Marks
