-- The walk up the log.
pub mod Walk
