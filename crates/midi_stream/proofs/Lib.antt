pub mod Cuts
pub mod Ends
pub mod Groups
pub mod ByteEffects
pub mod Rests
pub mod Answered
pub mod Ended
