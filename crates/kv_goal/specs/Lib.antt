pub mod Once
pub mod Measures
pub mod Notes
pub mod ByName
pub mod Goals
