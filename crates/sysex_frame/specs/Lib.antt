pub mod Checksum
pub mod Frame
pub mod FrameFault
pub mod ParsedFrame
pub mod Halves
