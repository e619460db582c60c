pub mod Framing
pub mod Limits
pub mod Lines
pub mod Memory
pub mod Outside
pub mod Reading
pub mod Standard
