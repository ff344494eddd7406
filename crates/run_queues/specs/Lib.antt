pub mod Deliveries
pub mod Handing
pub mod Hearings
pub mod Held
pub mod Mails
pub mod Showings
pub mod Steps
