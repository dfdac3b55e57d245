pub mod Frames
pub mod Lent
pub mod Inner
