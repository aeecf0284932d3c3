pub mod Quantities
pub mod Order
pub mod Times
pub mod EndedMessages
pub mod Tracks
pub mod Files
pub mod Plans
pub mod Early
