mod PlaceFacts
mod LineFacts
mod RisingFacts
mod PieceFacts
