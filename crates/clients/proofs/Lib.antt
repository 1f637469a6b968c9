-- From the calls' promises to what clients rely on, and that each promises one outcome.
pub mod Relied
pub mod Unique
pub mod Lent
