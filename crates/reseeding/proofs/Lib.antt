mod ConfigFacts
mod DomainsFacts
mod DoubtFacts
mod FloorFacts
mod NewConfigFacts
mod StayFacts
