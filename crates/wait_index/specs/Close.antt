-- What a close of labels does to an index
use Rattle.std.specs.Prelude.{◌≡◌, ℕ, ◌+◌, ◌≤◌, List, length, Contains}
use Rattle.wait_index.specs.Index.{Index}
use Rattle.wait_index.specs.Net.{IsOpen, ListsReached, visits_of, with_all_closed, ClosesIn}
use Rattle.wait_index.specs.Net.{ReportsFallen}

-- None of the labels is open.
abbrev pub AreUnopened : Index → List ℕ → Type 0
AreUnopened index labels = (label : ℕ) → Contains labels label → IsOpen index.net label → ⊥

-- The labels are closed from now on, with this much work: the number of times that an edge was
-- looked at. The reached nodes are marked, in their old order if no label was open. There is the
-- same room, and no more visits than before. The index says what fell.
pub record ClosesWithWork (old : Index) (labels : List ℕ) (new : Index) (work : ℕ) : Type 0 where
  pub net : new.net ≡ with_all_closed old.net labels
  pub marked : ListsReached new.net new.marked
  pub unopened : AreUnopened old labels → new.marked ≡ old.marked
  pub room : new.room ≡ old.room
  pub work_is : ClosesIn old.net labels (visits_of old.net old.marked)
      (visits_of new.net new.marked) work
  pub fewer : visits_of new.net new.marked ≤ visits_of old.net old.marked
  pub fallen : ReportsFallen old.net labels new.last.fallen new.last.kept new.marked
  pub many : length new.last.fallen + new.last.kept ≡ length old.marked
