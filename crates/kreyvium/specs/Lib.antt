pub mod Kreyvium
pub mod Words
pub mod Early
