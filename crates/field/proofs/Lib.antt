pub mod Reductions
pub mod Encoding
