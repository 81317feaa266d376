-- `Status` has what a status says, `Running` what a running replica adds to that, and `Changing`
-- what it says there of the configuration that it is changed from. The others have how it is
-- written; `Inside` has how far the work has come.
pub mod Status
pub mod StatusLines
pub mod StatusJson
pub mod StatusMetrics
pub mod PeerMetrics
pub mod Changing
pub mod Running
pub mod StatusRuns
pub mod Inside
