pub mod ElementFacts
pub mod ItemFacts
pub mod PlainFacts
pub mod TreeFacts
pub mod EscapeFacts
mod StandardFacts
