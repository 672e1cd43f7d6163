pub mod Bit
pub mod Logic
pub mod Slices
pub mod Sums
