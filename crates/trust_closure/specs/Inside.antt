-- What the closure over an index keeps: what is at the nodes of a net, the net of what is held, and
-- what a change does to it.
pub mod NodeSpecs
pub mod NetOf
pub mod Indexed
