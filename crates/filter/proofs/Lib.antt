pub mod Sums
pub mod Tab
pub mod Published
pub mod Parts
