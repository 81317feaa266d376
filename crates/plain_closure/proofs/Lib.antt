mod PlainFacts
mod PlainChangeFacts
mod SownFacts
