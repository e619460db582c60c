pub mod Answers
pub mod Derives
pub mod Events
pub mod Once
pub mod Reasons
pub mod Tallies
pub mod Laws
pub mod Keys
