pub mod Edits
pub mod Faults
pub mod Laws
pub mod Limits
pub mod LineStarts
pub mod Lines
pub mod Positions
pub mod Units
