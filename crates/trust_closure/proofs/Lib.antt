-- A net of nodes and labels
mod LabelledEdgeFacts
mod RepresentFacts
mod EdgeFacts
-- The closure over an index
mod ReachedFacts
mod LabelIndexFacts
mod IndexFacts
mod RecountFacts
