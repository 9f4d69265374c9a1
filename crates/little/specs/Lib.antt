pub mod Number
pub mod Bytes
pub mod Laws
pub mod Coincide
