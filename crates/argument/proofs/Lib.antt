pub mod Identities
pub mod Members
pub mod Steps
pub mod Weights
pub mod Sound
pub mod Complete
pub mod Readings
