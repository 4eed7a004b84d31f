pub mod Equal
pub mod Walks
pub mod Rounds
pub mod Phased
pub mod Faults
pub mod Views
