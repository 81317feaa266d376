-- `Carry` has what a caller cites; `Inside` has how far the work has come.
pub mod Carry
pub mod Inside
