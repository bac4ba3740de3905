pub mod Meaning
pub mod Playback
pub mod Track
