pub mod Decimal
pub mod Put
pub mod Line
pub mod DecimalLaws
pub mod PutLaws
pub mod LineLaws
pub mod Coincide
