pub mod Scripts
pub mod ScriptBridge
pub mod Readable
pub mod Rows
pub mod Projects
pub mod ProjectBridge
