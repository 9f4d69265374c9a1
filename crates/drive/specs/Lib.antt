pub mod ByPlay
pub mod Playing
pub mod PlayingLaws
