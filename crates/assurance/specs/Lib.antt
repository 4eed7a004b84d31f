pub mod Committed
pub mod Accepted
pub mod Honest
pub mod Whole
pub mod History
