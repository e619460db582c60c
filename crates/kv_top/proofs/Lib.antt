pub mod Writes
pub mod Files
pub mod Turns
pub mod Loops
pub mod Calls
