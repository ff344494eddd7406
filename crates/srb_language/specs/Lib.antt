pub mod Knowledge
pub mod Asked
pub mod Ready
