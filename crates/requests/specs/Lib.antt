-- Requests, IRQ and the acknowledge.
pub mod Requests
