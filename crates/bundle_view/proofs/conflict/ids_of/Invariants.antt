use Rattle.std.proofs.Common.{◌≡◌, map, take}
use Rattle.bundle_view.specs.Conflicts.{id_in}
use Rattle.bundle_view.proofs.conflict.ids_of.Given as goal

abbrev pub invariant-loop-listed : goal.invariant-loop-listed
invariant-loop-listed l = l.ids.items ≡ map (id_in l.domain) (take l.listed-index l.group)
