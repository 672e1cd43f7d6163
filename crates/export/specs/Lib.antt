pub mod Numbers
pub mod Export
pub mod Reading
pub mod Marks
