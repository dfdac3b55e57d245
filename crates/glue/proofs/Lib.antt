pub mod Parts
pub mod Accepted
pub mod Gluing
