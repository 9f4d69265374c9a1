pub mod Bytes
pub mod Lines
pub mod Row
pub mod Test
pub mod Table
