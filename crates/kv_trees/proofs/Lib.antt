pub mod Same
pub mod Induction
pub mod Inverse
pub mod Depths
pub mod Equality
