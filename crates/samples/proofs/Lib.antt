pub mod Readings
pub mod Runs
pub mod Holding
pub mod HonestRuns
pub mod WrongYes
pub mod Instances
