pub mod Record
pub mod Content
pub mod Laws
pub mod Pieces
pub mod Kinds
pub mod Coincide
