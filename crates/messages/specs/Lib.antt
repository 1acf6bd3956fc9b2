-- What a reader must believe of messages: their records, how they are written and read, and the promises.
pub mod Records
pub mod Writing
pub mod Reading
pub mod Promises
pub mod inner
