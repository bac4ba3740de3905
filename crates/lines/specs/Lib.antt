pub mod Grammar
pub mod Scan
pub mod Guards
pub mod Text
pub mod Laws
pub mod Parts
pub mod Next
