pub mod Bytes
pub mod Limits
pub mod Head
pub mod First
pub mod Bodies
pub mod Stream
pub mod Written
pub mod Grammar
