pub mod Layout
pub mod Node
pub mod Insert
pub mod Chains
pub mod WellFormed
pub mod Clear
pub mod Alias
