mod PieceFacts
pub mod StreamFacts
pub mod StepFacts
pub mod CountFacts
mod StandardFacts
