-- What a reader must believe of sessions: what they hold, when they are sound, how they start and what is told of it, their table, and the promises; how they are tested is inner.
pub mod Holding
pub mod Parts
pub mod Soundness
pub mod Told
pub mod Starting
pub mod Tables
pub mod inner
pub mod Promises
