pub mod Chains
pub mod Examples
pub mod Forms
pub mod Named
pub mod Signatures
pub mod Types
pub mod Views
