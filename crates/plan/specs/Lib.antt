pub mod Plan
pub mod OneOperand
