pub mod Moving
pub mod Playing
