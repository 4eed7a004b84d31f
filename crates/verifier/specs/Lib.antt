pub mod Powers
pub mod Rows
pub mod Agreeing
pub mod Inputs
pub mod Openings
pub mod Reader
pub mod Witnesses
