pub mod Folds
pub mod Listed
pub mod Laws
