pub mod Statuses
pub mod Words
pub mod Files
pub mod Turns
pub mod Runs
pub mod Serving
pub mod Calls
