pub mod Names
pub mod Reading
pub mod Times
pub mod Whole
