pub mod Examples
pub mod Laws
pub mod LinEnds
pub mod Lists
pub mod Placing
pub mod Rows
pub mod Search
pub mod Ways
