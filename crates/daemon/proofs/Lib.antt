pub mod Numbers
pub mod Counted
