pub mod Places
pub mod Loads
pub mod FactLists
pub mod Jobs
pub mod PlacePositions
pub mod ArrangedErrors
pub mod TypeErrors
