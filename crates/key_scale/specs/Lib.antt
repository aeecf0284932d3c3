pub mod Operator
pub mod Levels
pub mod Pitch
