-- The promise of each kind of call has a file of its own.
pub mod CallErrors
pub mod Numbers
pub mod Outcomes
pub mod Opening
pub mod Changes
pub mod Texts
