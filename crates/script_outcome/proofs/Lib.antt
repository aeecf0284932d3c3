pub mod Plans
pub mod EndedMessages
pub mod FedBytes
pub mod Early
