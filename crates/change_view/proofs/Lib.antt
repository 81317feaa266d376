mod PieceFacts
mod TurnFacts
