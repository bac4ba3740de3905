pub mod Stacks
pub mod Words
