pub mod Digits
pub mod Parts
pub mod Layouts
