pub mod Files
pub mod Orders
pub mod Chunks
pub mod Playback
pub mod OrderSoFar
pub mod Playing
