-- `DocumentJson`, `ChainJson` and `ReportJson` have what a caller cites; `Inside` has how far the
-- work has come.
pub mod DocumentJson
pub mod ChainJson
pub mod ReportJson
pub mod Inside
