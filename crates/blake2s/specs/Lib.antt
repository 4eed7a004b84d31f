pub mod Compress
pub mod Blake2s
pub mod Absorbed
pub mod Laws
