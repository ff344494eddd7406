pub mod EndingProofs
pub mod Judgings
pub mod Known
pub mod Naming
pub mod Operating
pub mod RowProofs
pub mod Sayings
pub mod Writing
