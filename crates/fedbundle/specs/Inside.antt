-- What taking the lines of a stream has done so far, and why records are refused.
pub mod Judging
pub mod Refusals
