pub mod Loading
pub mod Campaigning
pub mod Cutting
pub mod Ending
pub mod Roomy
