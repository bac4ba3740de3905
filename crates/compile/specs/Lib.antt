pub mod Compiled
pub mod Laws
pub mod Steps
