pub mod Bits
pub mod Costs
pub mod Facts
pub mod Placed
pub mod Same
pub mod Samples
pub mod Thr
pub mod Wiring
