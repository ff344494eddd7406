pub mod Shows
pub mod Tickets
