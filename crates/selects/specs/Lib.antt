-- The register of each select.
pub mod Selects
