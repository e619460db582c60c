pub mod Seen
pub mod Keys
pub mod Onces
pub mod Free
pub mod Pushed
