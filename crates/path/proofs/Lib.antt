pub mod Scores
pub mod Lists
pub mod Judging
pub mod Accepted
pub mod Writing
