pub mod Spelling
pub mod Heading
pub mod Each
