pub mod Word
pub mod Status
pub mod Bits
pub mod Laws
pub mod StatusLaws
pub mod Coincide
