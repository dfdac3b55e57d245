pub mod Judging
pub mod InnerPlaces
pub mod InnerRounds
