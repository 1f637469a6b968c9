-- What clients of the public calls rely on, and that each call promises one outcome.
pub mod Clients
pub mod Unique
