pub mod Examples
pub mod Readings
pub mod TypeForms
pub mod References
pub mod MalformedTypes
pub mod Visits
