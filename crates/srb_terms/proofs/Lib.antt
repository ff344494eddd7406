pub mod Filled
pub mod PathOrder
pub mod Rooms
pub mod WorldNames
