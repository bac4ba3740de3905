pub mod Chart
pub mod Rules
pub mod Words
pub mod Agreement
