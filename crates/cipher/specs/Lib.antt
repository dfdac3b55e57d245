pub mod Rows
pub mod Cipher
pub mod Inner
pub mod InnerVariables
