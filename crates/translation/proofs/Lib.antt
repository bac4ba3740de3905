pub mod PartLaws
pub mod Emitting
pub mod Noting
pub mod Reading
pub mod Limiting
pub mod Starting
