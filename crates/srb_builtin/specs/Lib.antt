pub mod Marks
pub mod Methods
pub mod Outlines
pub mod Rows
pub mod Table
pub mod Types
