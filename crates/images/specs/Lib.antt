pub mod Again
pub mod InPart
pub mod Way
pub mod AgainHolds
pub mod Counted
pub mod Followed
