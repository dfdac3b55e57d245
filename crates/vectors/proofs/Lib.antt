pub mod Turning
pub mod Drawing
