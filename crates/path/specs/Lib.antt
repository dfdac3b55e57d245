pub mod Path
pub mod Inner
