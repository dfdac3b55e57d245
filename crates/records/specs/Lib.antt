pub mod Bytes
pub mod File
pub mod Whole
pub mod Inner
