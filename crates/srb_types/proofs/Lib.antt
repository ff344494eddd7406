pub mod ClassMeets
pub mod Placing
pub mod Filtering
pub mod Meeting
pub mod Naming
pub mod Joining
pub mod Gathering
