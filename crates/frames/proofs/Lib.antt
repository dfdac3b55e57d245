pub mod Turned
pub mod Reversal
pub mod Spreading
pub mod Sealing
pub mod Judged
pub mod Places
pub mod Appending
