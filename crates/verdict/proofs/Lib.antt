pub mod Judging
pub mod Looping
pub mod Scanning
pub mod Settling
