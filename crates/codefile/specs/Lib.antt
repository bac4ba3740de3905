pub mod Format
pub mod Parts
pub mod File
pub mod First
pub mod Heads
pub mod Loads
pub mod Written
