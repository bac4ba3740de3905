pub mod RunLaws
pub mod Spellings
pub mod Lexing
pub mod Pieces
pub mod Texts
pub mod Places
