pub mod Slice
