pub mod Domains
pub mod Subgroup
pub mod Listed
pub mod Readings
pub mod Powers
pub mod TwoAdicity
