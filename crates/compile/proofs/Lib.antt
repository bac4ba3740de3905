pub mod TextLaws
pub mod Compiling
pub mod Filing
