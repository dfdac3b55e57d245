pub mod Swaps
pub mod Accepted
pub mod Distinct
pub mod Rows
