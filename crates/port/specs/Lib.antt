pub mod Bytes
pub mod Layout
