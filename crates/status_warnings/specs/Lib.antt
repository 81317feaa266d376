-- `Warnings` says what is found, the next three how it is written, `CertificateEnds` which
-- certificates there are, `Fetches` how domains are fetched, `SameKeys` which keys have the public
-- key of a distrusted one, and `WarnedStatus` has the whole texts.
pub mod Warnings
pub mod WarningLines
pub mod WarningJson
pub mod WarningMetrics
pub mod CertificateEnds
pub mod Fetches
pub mod SameKeys
pub mod WarnedStatus
