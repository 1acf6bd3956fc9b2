-- What a reader must believe of tables: where their fields lie, what the format says of bytes, what is told, read and written, and the promises.
pub mod Layout
pub mod Format
pub mod Told
pub mod Reading
pub mod Writing
pub mod Promises
