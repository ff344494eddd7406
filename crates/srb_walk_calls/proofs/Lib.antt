pub mod Calling
pub mod Chained
pub mod Counting
pub mod Forming
