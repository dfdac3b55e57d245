pub mod Fills
pub mod Depths
pub mod Levels
pub mod Spots
pub mod Judged
pub mod Promise
