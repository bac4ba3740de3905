pub mod Spelling
pub mod Runs
pub mod Lex
pub mod Spelled
