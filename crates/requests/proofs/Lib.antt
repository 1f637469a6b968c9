-- The laws of requests and of the acknowledge that callers use.
pub mod Requests
pub mod Asserted
pub mod Neighbours
pub mod Rule
