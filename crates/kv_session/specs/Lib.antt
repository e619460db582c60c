pub mod Edits
pub mod Answers
pub mod Places
pub mod Kept
pub mod Replies
pub mod Spellable
pub mod Canonical
pub mod Sessions
