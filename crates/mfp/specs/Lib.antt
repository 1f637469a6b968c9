-- What the C calls return and leave, where no lower crate says it.
pub mod Calls
