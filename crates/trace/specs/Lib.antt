-- What is promised of traces; what a trace holds and how it is logged is inner.
pub mod inner
pub mod Promises
