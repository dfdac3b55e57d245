pub mod Evaluate
pub mod Ready
pub mod Inner
