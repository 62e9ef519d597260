-- The register in print.
pub mod Text
pub mod TextLaws
