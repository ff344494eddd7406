pub mod NormalForms
pub mod Laws
pub mod Examples
