-- The laws of refusals' numbers.
pub mod Numbers
pub mod Outcomes
