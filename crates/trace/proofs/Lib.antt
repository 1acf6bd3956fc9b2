-- The laws of what a trace holds, and of how it is logged.
pub mod Traced
pub mod Whole
pub mod Outcomes
