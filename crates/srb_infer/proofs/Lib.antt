pub mod Bodying
pub mod Bracketed
pub mod Methods
pub mod Several
