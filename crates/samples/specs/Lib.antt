pub mod Readings
pub mod Elements
pub mod Two
pub mod Eight
pub mod Pairs
pub mod Three
pub mod Runs
pub mod Instances
