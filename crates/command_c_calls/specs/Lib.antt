-- What `report` and `canon` write of bytes.
pub mod Canonical
pub mod Reporting
