pub mod Checks
pub mod Rounds
pub mod Verified
