pub mod Text
pub mod Replay
