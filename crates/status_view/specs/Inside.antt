-- How far the work has come.
pub mod DomainsSoFar
