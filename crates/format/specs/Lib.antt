pub mod Words
pub mod Reading
pub mod Lines
pub mod Configurations
pub mod Files
pub mod Written
pub mod Runs
