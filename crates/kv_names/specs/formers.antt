pub mod lists
pub mod shared
