pub mod Mix
pub mod Modulation
pub mod Note
pub mod Running
pub mod Opening
