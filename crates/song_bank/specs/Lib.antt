pub mod Messages
pub mod Event
pub mod Song
pub mod Sound
pub mod Promise
