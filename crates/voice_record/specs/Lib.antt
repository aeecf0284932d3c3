pub mod Voice
pub mod Packing
