-- The check of a tape, its refusals in their order.
pub mod Checks
