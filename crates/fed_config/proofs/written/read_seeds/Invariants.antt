use Rattle.std.proofs.Common.{take}
use Rattle.std.specs.List.{AllZip}
use Rattle.serde_json.specs.View.{view}
use Rattle.fed_config.specs.Inside.Entries.{seed_text}
use Rattle.fed_config.specs.Written.{SaysSeedText}
use Rattle.fed_config.proofs.written.read_seeds.Given as goal

abbrev pub invariant-loop-element : goal.invariant-loop-element
invariant-loop-element l = AllZip (λ value e. SaysSeedText (view value) (seed_text e)) (take l.element-index l.elements) l.entries.items
