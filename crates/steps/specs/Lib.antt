pub mod Plan
pub mod Operation
pub mod Recovery
pub mod Coincide
