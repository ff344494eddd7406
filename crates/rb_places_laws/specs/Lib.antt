pub mod ErrorPlaces
pub mod Examples
pub mod TokenPlaces
pub mod TreePlaces
