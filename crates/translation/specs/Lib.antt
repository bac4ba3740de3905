pub mod Translation
pub mod Soundness
pub mod Drafts
pub mod Limits
