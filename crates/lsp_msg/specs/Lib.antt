pub mod ErrorCodes
pub mod Params
pub mod Encodings
pub mod Decoded
pub mod Written
pub mod Tokens
