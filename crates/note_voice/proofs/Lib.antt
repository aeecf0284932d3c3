pub mod Sums
pub mod Fields
pub mod Prefix
pub mod Steps
pub mod Blocks
pub mod Quiet
