pub mod Tries
pub mod Looks
pub mod Logs
pub mod Inside
