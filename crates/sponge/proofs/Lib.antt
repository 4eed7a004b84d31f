pub mod Passing
pub mod Words
pub mod Leads
pub mod Draws
pub mod Drawn
pub mod Bound
