pub mod Commands
pub mod Keywords
pub mod Laws
pub mod Names
pub mod Reasons
pub mod Rules
pub mod States
pub mod Words
