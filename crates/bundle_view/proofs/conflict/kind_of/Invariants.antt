use Rattle.std.proofs.Common.{◌≡◌, take}
use Rattle.std.specs.List.{All}
use Rattle.bundle_view.proofs.conflict.kind_of.Given as goal

abbrev pub invariant-loop-listed : goal.invariant-loop-listed
invariant-loop-listed l = All (λ d. l.first.authorities ≡ d.authorities) (take l.listed-index l.group)
