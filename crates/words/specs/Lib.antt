pub mod Words
pub mod Brackets
pub mod Mnemonics
pub mod Emitted
