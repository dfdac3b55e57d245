pub mod Emit
pub mod InnerRows
pub mod InnerLevels
