pub mod Attributes
pub mod Declaring
pub mod Initializers
pub mod Rewriting
pub mod Signatures
