-- How much work it is to distrust keys
use Rattle.std.specs.Prelude.{◌≡◌, ◌↔◌, ◌<◌, ◌≤◌, ℕ, [], ◌∷◌, List, Contains}
use Rattle.std.specs.Prelude.{Result, MatchResult, length, slice_get, Some}
use Rattle.std.specs.List.{All}
use Rattle.receipt_core.specs.declared.distrust.Distrust.{Distrust}
use Rattle.receipt_core.specs.declared.triple.Triple.{Triple}
use Rattle.wait_index.specs.Net.{visits_of, ClosesIn}
use Rattle.receipt_core.specs.Acceptance.{Meaning}
use Rattle.receipt_core.specs.Receipt.{distrust_cmp}
use Rattle.receipt_core.specs.Rising.{with_items}
use Rattle.trust_closure.specs.Inside.Indexed.{Indexed, IsIndexOf}
use Rattle.trust_closure.specs.Inside.NetOf.{IsNetOf}
use Rattle.closure_parts.specs.Held.{IsShutBy}
use Rattle.closure_parts.specs.Merge.{AreOld, HasNewRecord}
use Rattle.closure_core.specs.declared.error.TakeError.{TakeError}
use Rattle.closure_core.specs.declared.outcome.Distrusted.{Distrusted}
use Rattle.closure_core.specs.declared.outcome.Distrusted.TheVariants.{New, Already}

-- All labels of the keys that these records distrust are closed together. The work is the number of
-- times that an edge was looked at. There are no more visits than before. The law `twice_the_edges`
-- says how this bounds the work.
pub record ClosesAtOnce (old : Indexed) (records : List Distrust) (new : Indexed) : Type 0 where
  pub labels : List Triple
  pub net : IsNetOf old.state.meaning.config.seeds old.arrived old.state.meaning.records labels
      old.wired.net
  pub closing : List ℕ
  pub within : All (λ number. number < length labels) closing
  pub exactly : (number : ℕ) (label : Triple) → slice_get labels number ≡ Some label
      → Contains closing number ↔ IsShutBy records label
  pub work : ClosesIn old.wired.net closing (visits_of old.wired.net old.wired.marked)
      (visits_of new.wired.net new.wired.marked) new.work
  pub fewer : visits_of new.wired.net new.wired.marked
      ≤ visits_of old.wired.net old.wired.marked

-- A new record closes the labels of its key, and no other record takes any work.
abbrev pub Worked : Indexed → Distrust → Indexed → Distrusted → Type 0
Worked old x new (New lost) = ClosesAtOnce old (x ∷ []) new
Worked old x new Already = new.work ≡ old.work

abbrev pub Works : Indexed → Distrust → Indexed → Result Distrusted TakeError → Type 0
Works old x new result = MatchResult result (Worked old x new) (λ why. new.work ≡ old.work)

-- If these records are held as well, all labels of distrusted keys are closed together, and the
-- work is `count`.
pub record IsWorkOf (old : Indexed) (records : List Distrust) (count : ℕ) : Type 0 where
  pub after : Indexed
  pub is : IsIndexOf after
  pub meaning : after.state.meaning ≡ record old.state.meaning {
    records = with_items distrust_cmp records old.state.meaning.records;
  }
  pub arrived : after.arrived ≡ old.arrived
  pub closes : ClosesAtOnce old after.state.meaning.records after
  pub work : after.work ≡ count

-- If all records were held, nothing is closed. If one of them is new, all labels of distrusted keys
-- are closed together.
abbrev pub WorksOnce : Indexed → List Distrust → Indexed → Type 0
WorksOnce old records new = (AreOld old.state.meaning records → new.work ≡ old.work)
    × (HasNewRecord old.state.meaning records → IsWorkOf old records new.work)

abbrev pub MergesOnce : Indexed → Meaning → Indexed → Result ℕ TakeError → Type 0
MergesOnce old other new result =
    MatchResult result (λ taken. WorksOnce old other.records new) (λ why. new.work ≡ old.work)
