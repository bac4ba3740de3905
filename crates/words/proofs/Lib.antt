pub mod Inverse
pub mod Emitting
