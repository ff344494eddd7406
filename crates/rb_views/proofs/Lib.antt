pub mod LawProofs
pub mod Spelling
