-- What a reader must believe, from one bit up to the promises.
pub mod Bits
pub mod Fields
pub mod Usable
pub mod Promises
