pub mod Mixing
pub mod CutMixed
pub mod Order
