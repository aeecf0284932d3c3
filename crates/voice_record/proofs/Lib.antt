pub mod Every
pub mod Voices
pub mod Rows
pub mod Packed
