pub mod Moving
pub mod Operands
pub mod Laws
pub mod Grown
