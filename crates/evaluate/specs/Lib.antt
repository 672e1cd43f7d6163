pub mod U128
pub mod I128
pub mod Operator
pub mod Evaluate
pub mod Answer
pub mod SmtLib
