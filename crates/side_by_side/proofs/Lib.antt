mod EntryFacts
mod OfferFacts
mod StepFacts
mod HeldOfferFacts
mod PromiseFacts
mod PairWorldFacts
mod PassingFacts
