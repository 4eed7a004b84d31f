pub mod Numbers
pub mod Limits
pub mod Phases
pub mod Walk
pub mod Verdicts
pub mod Faults
pub mod Views
