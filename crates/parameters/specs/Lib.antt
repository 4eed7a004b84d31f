pub mod Refusals
pub mod Schedule
pub mod Replies
pub mod Plans
