-- The laws of one ordered pair, by what they say.
pub mod Lists
pub mod Runs
pub mod Configurations
pub mod Bound
pub mod Rounds
pub mod Outcomes
pub mod Examples
