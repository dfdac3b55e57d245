pub mod Variables
pub mod Accepted
pub mod Sums
pub mod Block
pub mod Written
pub mod Halves
pub mod Spread
