pub mod Tick
pub mod Reading
pub mod Done
pub mod Session
pub mod Split
pub mod Pieces
pub mod Room
pub mod Coincide
