pub mod Calculus
pub mod Laws
pub mod Theories
pub mod Derivs
pub mod Typings
