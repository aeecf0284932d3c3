pub mod Turns
pub mod Written
pub mod Timed
pub mod Runs
pub mod Steps
