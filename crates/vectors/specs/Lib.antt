pub mod Text
pub mod Reversed
