pub mod Kept
pub mod Parameters
