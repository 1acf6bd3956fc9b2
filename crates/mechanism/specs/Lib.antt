-- What a reader must believe of the mechanism: what each request says, what it makes of a session, when it is refused, and the promises.
pub mod Views
pub mod Combining
pub mod Spreading
pub mod Applying
pub mod Requests
pub mod Refusals
pub mod Pairwise
pub mod Promises
