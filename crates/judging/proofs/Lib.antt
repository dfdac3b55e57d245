pub mod Accepted
pub mod Shared
