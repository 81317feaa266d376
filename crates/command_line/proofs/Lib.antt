mod WordsFacts
mod OptionTextFacts
mod SessionsFacts
mod KeyTextFacts
mod NarrowFacts
