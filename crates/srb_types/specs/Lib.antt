pub mod Order
pub mod Shown
pub mod Normal
pub mod Joined
