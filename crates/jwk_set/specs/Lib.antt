-- what a caller cites
pub mod Element
pub mod Forms
pub mod Json
-- for private clauses
pub mod Written
pub mod Inside
