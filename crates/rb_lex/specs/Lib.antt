pub mod Chars
pub mod Cuts
pub mod Levels
pub mod Lexed
pub mod Numbers
pub mod Operators
pub mod Pieces
pub mod Words
