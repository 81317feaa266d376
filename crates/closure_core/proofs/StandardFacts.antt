-- The definitions at small examples: each comes out by computation
use Rattle.std.proofs.Common.{◌≡◌, ◌<◌, [], ◌∷◌, None, Some, true, false, Less, Greater, refl, arith}
use Rattle.bundle_doc.specs.Bundle.{Bundle}
use Rattle.fed_config.specs.Configuration.{Configuration}
use Rattle.receipt_core.specs.Receipt.{Receipt}
use Rattle.receipt_core.specs.Acceptance.{Meaning}
use Rattle.closure_core.specs.Changes.{HeldAndRoom, IsGain, union_of, HasMergedInRoom}
use Rattle.closure_core.specs.Inside.Nodes.{raised_documents}
use Rattle.closure_core.specs.AcceptedList.{document_cmp, document_of}
use Rattle.closure_core.proofs.ContainsFacts.{contains_none}

-- documents without a rank, with rank 0 and with rank 1: this one, `first` and `second`
abbrev unranked : Bundle
unranked = record { authorities = []; rank = None; hint = None }

-- the document with rank 0
abbrev first : Bundle
first = record { authorities = []; rank = Some 0; hint = None }

-- the document with rank 1
abbrev second : Bundle
second = record { authorities = []; rank = Some 1; hint = None }

-- An absent rank is below 0.
absent_comes_before_zero : document_cmp unranked first ≡ Less
absent_comes_before_zero = refl

-- A smaller rank is below a larger one.
zero_comes_before_one : document_cmp first second ≡ Less
zero_comes_before_one = refl

-- A rank is above an absent one: the order can be turned round.
one_comes_behind_absent : document_cmp second unranked ≡ Greater
one_comes_behind_absent = refl

-- only what is raised is lent, and in the order of the numbers
raised_alone : raised_documents (document_of [] first ∷ document_of [] second ∷ document_of [] unranked ∷ [])
    (true ∷ false ∷ true ∷ []) (2 ∷ 1 ∷ 0 ∷ []) ≡ unranked ∷ first ∷ []
raised_alone = refl

-- Nothing is gained if nothing changes.
no_gain : (m : Meaning) → IsGain m m 0
no_gain m = record {
  items = [];
  different = tt;
  exactly = λ p. (λ has. absurd (contains_none p has), λ both. absurd (both.1 both.0));
  count = refl;
}

-- a union has what either holds, under the first's configuration
union_with_none : (c d : Configuration) (r : Receipt)
    → union_of (record { config = c; held = []; records = [] }) (record { config = d; held = r ∷ []; records = [] })
    ≡ record { config = c; held = r ∷ []; records = [] }
union_with_none c d r = refl

-- a merge that brought nothing new has thrown no room away
no_room_thrown_away : (old new : HeldAndRoom) (other : Meaning) → HasMergedInRoom old other new 0
    → new.room.receipts < old.room.receipts → ⊥
no_room_thrown_away old new other merged less = omega (arith, merged.receipts, less)
