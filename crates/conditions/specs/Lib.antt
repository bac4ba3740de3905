pub mod Tree
pub mod Scan
pub mod Read
pub mod Readers
pub mod Laws
