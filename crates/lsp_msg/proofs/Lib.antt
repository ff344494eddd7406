pub mod Bodies
pub mod Objects
pub mod Puts
pub mod ReadBack
