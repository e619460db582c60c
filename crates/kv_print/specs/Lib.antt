pub mod Texts
pub mod Pieces
pub mod Forms
pub mod Items
pub mod Shown
pub mod Scripts
pub mod Layout
