-- What the functions of a request hand each other: the trace of its messages.
pub mod Traces
