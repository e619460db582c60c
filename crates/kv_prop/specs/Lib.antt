pub mod Limits
pub mod Rows
pub mod Replacing
pub mod Premises
pub mod Drafts
pub mod Laws
pub mod Shallow
pub mod Refusals
