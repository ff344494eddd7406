pub mod Causes
pub mod Course
pub mod Deeds
pub mod Hearing
pub mod Leading
pub mod Projects
pub mod Recorded
pub mod Served
