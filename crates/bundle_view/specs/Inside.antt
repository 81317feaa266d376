-- Documents in groups, the report as far as it is made, the search for a chain, an observation as
-- far as it is made
pub mod Groups
pub mod Sections
pub mod Search
pub mod Observing
