pub mod Core
pub mod Fields
pub mod Ranges
pub mod Schedule
pub mod World
