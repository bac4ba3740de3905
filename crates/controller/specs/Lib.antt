pub mod Parts
pub mod Standing
pub mod Calls
pub mod Resting
pub mod Beside
pub mod Closing
