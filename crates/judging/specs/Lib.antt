pub mod Judging
pub mod Inner
