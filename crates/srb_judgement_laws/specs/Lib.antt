pub mod ErrorPlaces
pub mod Placed
pub mod Projects
