-- `HeldLines`, `HeldTexts`, `HeldJson` and `TrustGraph` have what a caller cites; `Inside` has how
-- far the work has come.
pub mod HeldLines
pub mod HeldTexts
pub mod HeldJson
pub mod TrustGraph
pub mod Inside
