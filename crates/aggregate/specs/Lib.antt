-- What a reader must believe of the functions that serve a session: what each answers and leaves, and the promises; what their private parts hand each other is inner.
pub mod Told
pub mod Serving
pub mod Running
pub mod inner
pub mod Promises
