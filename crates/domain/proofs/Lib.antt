pub mod Orders
pub mod Inside
pub mod Distance
pub mod Lists
pub mod Lawful
