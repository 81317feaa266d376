use Rattle.fedbundle.proofs.shown_moves.reseed_floored.Goals as goal

pub returns : goal.returns
returns g c = record {
  floors = c.floors_of-floors.result;
  is_floors = rw c.given.ensures at c.floors_of-floors.ensures;
  reseeds = c.reseed_into.ensures;
}
