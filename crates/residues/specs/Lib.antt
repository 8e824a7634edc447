pub mod Residues
pub mod Sums
pub mod ResiduesLemmas
pub mod Reciprocals
