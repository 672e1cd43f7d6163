pub mod Placing
pub mod Decimal
