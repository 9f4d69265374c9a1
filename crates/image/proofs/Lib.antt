pub mod AnyLaws
pub mod ClaimLaws
pub mod ImageLaws
pub mod StepLaws
pub mod VisitLaws
pub mod RunLaws
