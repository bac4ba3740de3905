pub mod Panels
pub mod Scans
pub mod Restarts
pub mod Tasks
