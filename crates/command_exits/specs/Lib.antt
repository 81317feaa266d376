-- What a caller cites.
pub mod Errors
pub mod Status
pub mod Fault
pub mod Exits
pub mod DeviceRuns
pub mod ConfigSource
