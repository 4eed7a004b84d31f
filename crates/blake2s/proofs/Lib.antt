pub mod Chain
pub mod Collisions
pub mod Digests
pub mod Lists
pub mod Made
pub mod Padding
pub mod Steps
pub mod Table
