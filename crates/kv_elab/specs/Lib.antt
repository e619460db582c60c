pub mod Faults
pub mod Typed
pub mod Scopes
pub mod Elab
pub mod Lawful
pub mod Names
