pub mod Sums
pub mod AllSlots
pub mod Rounds
pub mod States
pub mod Journals
pub mod Following
pub mod Begun
