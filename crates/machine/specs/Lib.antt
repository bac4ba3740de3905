pub mod Machine
pub mod View
