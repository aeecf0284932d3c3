pub mod Bytes
pub mod Event
pub mod Track
pub mod Chunks
pub mod Time
pub mod File
pub mod Values
pub mod FileSoFar
