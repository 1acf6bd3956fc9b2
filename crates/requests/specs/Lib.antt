-- What a reader must believe of requests: lists of them as data and as bytes, what is read, what the format says of bytes, and the promises.
pub mod Lists
pub mod Told
pub mod Reading
pub mod Format
pub mod Promises
