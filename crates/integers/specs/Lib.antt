pub mod Integers
pub mod Laws
pub mod Signs
pub mod Residues
