pub mod Joined
pub mod Written
pub mod Again
pub mod Put
pub mod Round
pub mod Samples
