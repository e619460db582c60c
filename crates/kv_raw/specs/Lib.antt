pub mod RawTrees
pub mod RawBridge
pub mod RawCount
