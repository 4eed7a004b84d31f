pub mod Ring
pub mod Polynomials
