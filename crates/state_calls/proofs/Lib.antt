mod TryFacts
