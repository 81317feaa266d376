pub mod PieceFacts
mod StatusFacts
