-- The statements that the README and docs/MAP.md send a reader to. Their proofs are in proofs/, a file for each.
pub mod Examples
pub mod Channels
pub mod Rule
pub mod Clocks
pub mod Images
pub mod Refusals
pub mod Entries
pub mod Tapes
pub mod Acknowledges
pub mod Rows
pub mod RowImages
pub mod Parts
pub mod Accepted
pub mod Raised
