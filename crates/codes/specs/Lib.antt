pub mod Place
pub mod Row
pub mod Round
pub mod Coincide
