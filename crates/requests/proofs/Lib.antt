-- The laws of request lists, by what they say.
pub mod Places
pub mod Items
pub mod Steps
pub mod Refusals
pub mod FirstBytes
pub mod Walk
pub mod OneField
pub mod Runs
pub mod Handing
pub mod Exactly
pub mod Written
pub mod Outcomes
