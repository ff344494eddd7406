pub mod Ends
pub mod Begins
pub mod Laws
pub mod Examples
