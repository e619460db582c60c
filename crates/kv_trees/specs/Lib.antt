pub mod Trees
pub mod Bridge
pub mod Count
pub mod Same
pub mod Laws
pub mod Variables
