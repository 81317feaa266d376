-- The steps of sessions, and how pieces are taken
pub mod NextLines
pub mod NewEntries
pub mod AnswerSteps
pub mod Waiting
pub mod LineErrors
pub mod Driving
pub mod Serving
pub mod ServingSteps
