-- What a caller cites is in `Offering`, `Promise` and `Sides`; `PairWorlds` and `PassedSteps` are
-- for the laws, and `Inside` has the steps.
pub mod Offering
pub mod Promise
pub mod Sides
pub mod LentSides
pub mod PairWorlds
pub mod PassedSteps
pub mod Inside
