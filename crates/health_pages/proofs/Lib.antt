mod NameFacts
mod SendingFacts
mod VerdictFacts
