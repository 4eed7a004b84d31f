pub mod Lists
pub mod Shelves
pub mod Trees
pub mod Openings
