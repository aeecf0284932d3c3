pub mod Ranges
pub mod Generating
pub mod DueBlocks
pub mod Lines
pub mod Sends
pub mod Blocks
pub mod Sounds
