pub mod Dealt
pub mod Found
pub mod Leading
pub mod Paths
pub mod Working
