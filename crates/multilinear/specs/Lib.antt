pub mod Tables
pub mod Univariate
pub mod Weights
pub mod Scratch
pub mod Laws
pub mod Embedding
