pub mod Courses
mod Crossing
pub mod Dealing
pub mod Rounds
