pub mod Letters
pub mod Blocks
pub mod Messages
pub mod Counts
pub mod Keywords
pub mod Matching
pub mod Order
pub mod Calls
