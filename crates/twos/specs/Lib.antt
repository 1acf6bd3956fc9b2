-- What a reader must believe of two's complement, and the promises.
pub mod Twos
pub mod Promises
