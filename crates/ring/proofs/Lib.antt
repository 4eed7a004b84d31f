pub mod Basic
pub mod Solve
pub mod Roots
