pub mod Packed
pub mod Daemon
pub mod Inner
