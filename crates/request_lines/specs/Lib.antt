pub mod RequestLines
pub mod Inside
