pub mod Bits
pub mod Packed
pub mod Streams
pub mod Windows
pub mod Blocks
pub mod Loads
