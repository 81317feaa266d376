-- What only private clauses say
pub mod WordsErrors
