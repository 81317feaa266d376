mod LabelOrderFacts
mod ClosedLabelFacts
mod KeyRunFacts
