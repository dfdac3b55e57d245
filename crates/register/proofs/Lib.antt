pub mod Cases
pub mod Places
pub mod Few
pub mod Rounds
pub mod Words
pub mod Accepted
