pub mod Scanning
pub mod Calling
pub mod TwoCalls
pub mod FirstDrive
pub mod Alike
pub mod Tasking
