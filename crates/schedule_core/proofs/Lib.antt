pub mod Sounds
pub mod Legal
pub mod Settling
pub mod Worlds
