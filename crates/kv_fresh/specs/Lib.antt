pub mod States
pub mod Goals
pub mod Indexes
pub mod Tables
pub mod Backing
pub mod Flats
pub mod Work
