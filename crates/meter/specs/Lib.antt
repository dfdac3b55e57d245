pub mod Levels
pub mod Meter
pub mod InnerDepths
pub mod InnerLevels
