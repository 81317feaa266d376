-- `DistrustEffect` has what a caller cites; `Inside` has how far the work has come.
pub mod DistrustEffect
pub mod Inside
