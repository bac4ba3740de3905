pub mod Excerpts
pub mod Positions
