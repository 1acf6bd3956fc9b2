-- What a reader must believe of refusals, and the promises.
pub mod Numbers
pub mod Sentences
pub mod Promises
pub mod Outcomes
