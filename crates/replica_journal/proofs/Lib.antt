mod JournalFacts
mod PrefixFacts
