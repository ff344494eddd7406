pub mod Counts
pub mod Told
pub mod Memory
pub mod MemSource
pub mod MemSink
pub mod Whole
pub mod Files
pub mod MemFiles
