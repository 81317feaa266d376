use Rattle.std.proofs.Common.{◌∙◌, List, ℕ, ap, refl, sym}
use Rattle.replica_sync.specs.ServedPieces.{due_give}
use Rattle.bucket_sums.specs.Quiet.{first_due}
use Rattle.bucket_sums.proofs.quiet_serving.QuietServing.new.Goals as goal

pub returns : goal.returns
returns c = record {
  begins = λ config. record {
    serves = c.new-2.ensures.begins;
    sound = c.new-2.ensures.sound;
    idle = c.new-2.ensures.idle;
    bytes = sym c.new.ensures.empty;
    none = refl;
    none_due = c.new-3.ensures.items;
    all = c.new-2.ensures.records;
  };
  idle = ap (λ (l : List ℕ). first_due l (due_give c.new-2.result)) c.new-3.ensures.items ∙ c.new-2.ensures.idle;
}
