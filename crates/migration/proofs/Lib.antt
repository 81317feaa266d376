mod CarryFacts
mod LimitFacts
