pub mod Verifies
pub mod Ran
