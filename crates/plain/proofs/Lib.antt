pub mod Cases
pub mod Moments
pub mod Laws
pub mod Once
pub mod Telling
pub mod Naming
pub mod Worked
