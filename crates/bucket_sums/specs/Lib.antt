-- What a caller cites.
pub mod Sums
pub mod Parts
pub mod Sessions
pub mod Lines
pub mod Questions
pub mod Serving
pub mod RecordsOnce
pub mod Asking
pub mod Quiet
pub mod QuietPulls
pub mod QuietRuns
pub mod Changing
pub mod Inside
