pub mod Outcomes
pub mod Feeding
pub mod Keeping
pub mod Stopping
pub mod Handling
pub mod Used
pub mod Ranges
