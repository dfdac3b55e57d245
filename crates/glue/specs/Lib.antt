pub mod Glue
pub mod Inner
