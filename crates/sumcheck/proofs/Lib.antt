pub mod Counting
pub mod Turning
pub mod Giving
pub mod Following
pub mod Rounding
pub mod Closing
