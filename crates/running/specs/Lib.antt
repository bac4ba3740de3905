pub mod Texts
pub mod Endings
pub mod CallLists
pub mod ListErrors
