pub mod Verdicts
pub mod Scans
pub mod Rules
pub mod Shown
