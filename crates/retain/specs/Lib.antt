pub mod Retain
