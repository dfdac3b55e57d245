pub mod Cells
pub mod InnerLoop
