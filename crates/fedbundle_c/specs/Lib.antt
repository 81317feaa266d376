-- `Holding` says what a handle owns, `Exports` what each export does that has one, and `Stateless`
-- what the others do.
pub mod Exports
pub mod Holding
pub mod Stateless
