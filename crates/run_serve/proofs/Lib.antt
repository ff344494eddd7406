pub mod Deeds
pub mod Hearing
pub mod Rounds
pub mod Sending
pub mod Sessions
pub mod Owed
