-- The laws of the walks, by what they say.
pub mod Finding
pub mod Linking
pub mod Neighbours
pub mod Pushing
pub mod Steps
pub mod Fitting
pub mod Ways
pub mod Passes
pub mod Halves
pub mod Split
pub mod Reaching
pub mod Coming
pub mod Sends
pub mod Starting
pub mod Silence
