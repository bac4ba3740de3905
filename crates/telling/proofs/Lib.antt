pub mod Excerpts
pub mod Lines
pub mod Positions
