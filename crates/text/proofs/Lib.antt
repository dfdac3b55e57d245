pub mod Netlists
pub mod Thresholds
pub mod Fits
pub mod Cases
pub mod Samples
