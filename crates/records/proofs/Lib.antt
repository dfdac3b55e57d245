pub mod Joined
pub mod Found
pub mod Judged
