pub mod Operator
pub mod Shape
pub mod Range
