use Rattle.replica_c_calls.proofs.held_texts.current_bytes.Goals as goal

-- the domain that was read is the one that the bytes name
pub returns : goal.returns
returns g c = (c.in_ok-domain.ensures.1, rw c.in_ok-domain.ensures.0 at c.in-None.ensures)
