pub mod Bools
pub mod Equations
pub mod Sound
pub mod Found
pub mod Members
pub mod Complete
