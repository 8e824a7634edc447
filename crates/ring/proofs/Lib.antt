pub mod Horner
pub mod Polynomials
pub mod Units
pub mod Laws
