pub mod Backed
pub mod Goals
pub mod Idle
pub mod Told
pub mod Turns
