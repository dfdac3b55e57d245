pub mod Filter
pub mod Papers
pub mod Instances
