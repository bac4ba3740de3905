pub mod Working
pub mod Stepping
pub mod Resting
pub mod Loading
