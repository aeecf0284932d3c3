pub mod Handled
pub mod Receiving
pub mod Feeds
pub mod Sending
