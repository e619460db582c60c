pub mod Grammar
pub mod Parse
pub mod Gives
pub mod Nests
pub mod Readings
