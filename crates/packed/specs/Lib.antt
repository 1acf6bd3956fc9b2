-- What a reader must believe of packed fields, and the promises.
pub mod Parts
pub mod Promises
