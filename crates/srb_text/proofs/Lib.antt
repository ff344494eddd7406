mod Examples
pub mod EndLemmas
pub mod SortedLemmas
pub mod TableLemmas
pub mod LineLemmas
pub mod PlaceLemmas
pub mod FittingLemmas
pub mod SpellingLemmas
pub mod TransferLemmas
pub mod LawLemmas
pub mod BoundaryLemmas
