-- what a caller cites
pub mod Bundle
pub mod Refusal
-- for private clauses
pub mod Entries
pub mod CanonicalReader
pub mod Hashed
