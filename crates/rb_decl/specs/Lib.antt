pub mod Items
pub mod Methods
pub mod Names
pub mod Parameters
pub mod Programs
