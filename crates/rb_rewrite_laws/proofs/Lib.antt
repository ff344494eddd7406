pub mod Made
pub mod Signatures
pub mod Attributes
pub mod Initializers
pub mod Rewriting
