pub mod Laws
pub mod Marks
pub mod Spelling
pub mod Texts
pub mod Tokens
