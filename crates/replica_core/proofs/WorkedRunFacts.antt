-- Worked runs of three replicas.
use Rattle.std.proofs.Common.{◌≡◌, ◌≢◌, ℕ, true, false, List, [], ◌∷◌, ◌++◌, ◌∙◌, ap, sym, refl}
use Rattle.std.specs.Prelude.{bytes_eq}
use Rattle.std.proofs.lemmas.List.Sums.{fold-append}
use Rattle.std.specs.declared.cmp.Ordering.TheVariants.{Less, Equal, Greater}
use Rattle.receipt_core.specs.declared.distrust.Distrust.{Distrust}
use Rattle.receipt_core.specs.Receipt.{Receipt, receipt_id_of, receipt_cmp, distrust_cmp}
use Rattle.replica_core.specs.State.{State, no_state, bucket_of_id, id_cmp}
use Rattle.replica_core.specs.World.{World, empty_world, Rules, have_sent, give_sent, at_replica, happens, run_from, run}
use Rattle.replica_core.specs.declared.event.Event.{Event}
use Rattle.replica_core.specs.declared.event.Event.TheVariants.{Take, Revoke, Ask, Answer, Absorb, Join, Restart}
use Rattle.fed_config.specs.Limits.{usual_limits}

-- three replicas to which all receipts fit and all domains are known
abbrev three : Rules
three = record { replicas = 3; limits = λ replica. usual_limits; fits = λ r. true; knows = λ domain. true }

-- replicas 0 and 1 take a receipt each, replica 2 a record
abbrev starts : Receipt → Receipt → Distrust → List Event
starts a b x = Take 0 a ∷ Take 1 b ∷ Revoke 2 x ∷ []

-- two receipts in one bucket, the first below the second
pub record AreApart (a b : Receipt) (x : Distrust) : Type 0 where
  pub bucket : bucket_of_id a ≡ 1
  pub other_bucket : bucket_of_id b ≡ 1
  pub less : receipt_cmp a b ≡ Less
  pub greater : receipt_cmp b a ≡ Greater
  pub same : receipt_cmp a a ≡ Equal
  pub other_same : receipt_cmp b b ≡ Equal
  pub same_record : distrust_cmp x x ≡ Equal
  pub named : bytes_eq (receipt_id_of a) (receipt_id_of a) ≡ true
  pub other_named : bytes_eq (receipt_id_of b) (receipt_id_of b) ≡ true
  pub apart : bytes_eq (receipt_id_of a) (receipt_id_of b) ≡ false
  pub other_apart : bytes_eq (receipt_id_of b) (receipt_id_of a) ≡ false
  pub ids_less : id_cmp (receipt_id_of a) (receipt_id_of b) ≡ Less
  pub ids_greater : id_cmp (receipt_id_of b) (receipt_id_of a) ≡ Greater

-- replica 1 takes the answer of 0, 2 that of 1, 0 that of 2, and 1 that of 2
abbrev one_course : List Event
one_course = Ask 1 1 ∷ Answer 0 0 ∷ Absorb 1 1 ∷ Ask 2 1 ∷ Answer 1 2 ∷ Absorb 2 3 ∷ Ask 0 1 ∷ Answer 2 4 ∷ Absorb 0 5 ∷ Ask 1 1 ∷ Answer 2 6 ∷ Absorb 1 7 ∷ []

-- in another order, and an answer is taken twice
abbrev first_half : List Event
first_half = Ask 2 1 ∷ Answer 1 0 ∷ Absorb 2 1 ∷ Absorb 2 1 ∷ Ask 0 1 ∷ Answer 2 2 ∷ Absorb 0 3 ∷ []

-- then 1 and 2 each take the answer of 0
abbrev second_half : List Event
second_half = Ask 1 1 ∷ Answer 0 4 ∷ Absorb 1 5 ∷ Ask 2 1 ∷ Answer 0 6 ∷ Absorb 2 7 ∷ []

-- both receipts and the record
abbrev all_of : Receipt → Receipt → Distrust → State
all_of a b x = record { held = a ∷ b ∷ []; records = x ∷ [] }

-- After that course replica 0 holds everything.
same-zero : (a b : Receipt) (x : Distrust) → AreApart a b x → (run three (starts a b x ++ one_course)).now 0 ≡ all_of a b x
same-zero a b x h = simp (
  h.bucket,
  h.other_bucket,
  h.less,
  h.greater,
  h.same,
  h.other_same,
  h.same_record,
  h.named,
  h.other_named,
  h.apart,
  h.other_apart,
  h.ids_less,
  h.ids_greater,
)

-- After that course replica 1 holds everything.
same-one : (a b : Receipt) (x : Distrust) → AreApart a b x → (run three (starts a b x ++ one_course)).now 1 ≡ all_of a b x
same-one a b x h = simp (
  h.bucket,
  h.other_bucket,
  h.less,
  h.greater,
  h.same,
  h.other_same,
  h.same_record,
  h.named,
  h.other_named,
  h.apart,
  h.other_apart,
  h.ids_less,
  h.ids_greater,
)

-- After that course replica 2 holds everything.
same-two : (a b : Receipt) (x : Distrust) → AreApart a b x → (run three (starts a b x ++ one_course)).now 2 ≡ all_of a b x
same-two a b x h = simp (
  h.bucket,
  h.other_bucket,
  h.less,
  h.greater,
  h.same,
  h.other_same,
  h.same_record,
  h.named,
  h.other_named,
  h.apart,
  h.other_apart,
  h.ids_less,
  h.ids_greater,
)

-- the world between the halves
abbrev halfway : Receipt → Receipt → Distrust → World
halfway a b x = record {
  now = at_replica 0 (all_of a b x) (at_replica 2 (record { held = b ∷ []; records = x ∷ [] })
      (at_replica 2 (record { held = b ∷ []; records = x ∷ [] }) (at_replica 2 (record { held = []; records = x ∷ [] })
      (at_replica 1 (record { held = b ∷ []; records = [] }) (at_replica 0 (record { held = a ∷ []; records = [] }) (λ i. no_state))))));
  saved = λ i. no_state;
  sent = have_sent 2 1 [] ∷ give_sent 1 0 (record { held = b ∷ []; records = [] }) ∷ have_sent 0 1 (receipt_id_of a ∷ []) ∷
      give_sent 2 2 (record { held = b ∷ []; records = x ∷ [] }) ∷ [];
}

-- The first half results in that world.
half : (a b : Receipt) (x : Distrust) → AreApart a b x → run three (starts a b x ++ first_half) ≡ halfway a b x
half a b x h = simp (
  h.bucket,
  h.other_bucket,
  h.less,
  h.greater,
  h.same,
  h.other_same,
  h.same_record,
  h.named,
  h.other_named,
  h.apart,
  h.other_apart,
  h.ids_less,
  h.ids_greater,
)

-- What the second half results in may be computed from that world.
again : (a b : Receipt) (x : Distrust) → AreApart a b x → (i : ℕ)
    → (run three ((starts a b x ++ first_half) ++ second_half)).now i
    ≡ (run_from three (halfway a b x) second_half).now i
again a b x h i =
    ap (λ (w : World). w.now i) (fold-append (happens three) empty_world (starts a b x ++ first_half) second_half
    ∙ ap (λ (w : World). run_from three w second_half) (half a b x h))

-- After the other course, too, replica 0 holds everything.
again-zero : (a b : Receipt) (x : Distrust) → AreApart a b x → (run three ((starts a b x ++ first_half) ++ second_half)).now 0 ≡ all_of a b x
again-zero a b x h =
    again a b x h 0 ∙ simp (
      h.bucket,
      h.other_bucket,
      h.less,
      h.greater,
      h.same,
      h.other_same,
      h.same_record,
      h.named,
      h.other_named,
      h.apart,
      h.other_apart,
      h.ids_less,
      h.ids_greater,
    )

-- After the other course, too, replica 1 holds everything.
again-one : (a b : Receipt) (x : Distrust) → AreApart a b x → (run three ((starts a b x ++ first_half) ++ second_half)).now 1 ≡ all_of a b x
again-one a b x h = again a b x h 1 ∙ simp (
  h.bucket,
  h.other_bucket,
  h.less,
  h.greater,
  h.same,
  h.other_same,
  h.same_record,
  h.named,
  h.other_named,
  h.apart,
  h.other_apart,
  h.ids_less,
  h.ids_greater,
)

-- After the other course, too, replica 2 holds everything.
again-two : (a b : Receipt) (x : Distrust) → AreApart a b x → (run three ((starts a b x ++ first_half) ++ second_half)).now 2 ≡ all_of a b x
again-two a b x h = again a b x h 2 ∙ simp (
  h.bucket,
  h.other_bucket,
  h.less,
  h.greater,
  h.same,
  h.other_same,
  h.same_record,
  h.named,
  h.other_named,
  h.apart,
  h.other_apart,
  h.ids_less,
  h.ids_greater,
)

-- ---- what the premises of agreement are for

-- only the receipt
abbrev only : Receipt → State
only a = record { held = a ∷ []; records = [] }

-- A replica with only the receipt and one with nothing do not agree.
differs : (s t : State) (a : Receipt) → s ≡ only a → t ≡ no_state → s ≢ t
differs s t a p q e = let held : a ∷ [] ≡ [] = ap (λ (u : State). u.held) (sym p ∙ e ∙ q) in cc

-- replica 1 has all of 0's answer, and then 0 takes a receipt
abbrev later_take : Receipt → List Event
later_take a = Ask 1 1 ∷ Answer 0 0 ∷ Absorb 1 1 ∷ Take 0 a ∷ []

-- Replicas 0 and 1 do not agree then: nothing may be taken in between.
later_take-differs : (a : Receipt) → bucket_of_id a ≡ 1 → (run three (later_take a)).now 0 ≢ (run three (later_take a)).now 1
later_take-differs a p = differs ((run three (later_take a)).now 0) ((run three (later_take a)).now 1) a refl refl

-- replica 1 has all of 0's answer, and then starts again from what it never saved
abbrev later_restart : Receipt → List Event
later_restart a = Take 0 a ∷ Ask 1 1 ∷ Answer 0 0 ∷ Absorb 1 1 ∷ Restart 1 ∷ []

-- Replicas 0 and 1 do not agree then: nobody may restart in between.
later_restart-differs : (a : Receipt) → bucket_of_id a ≡ 1 → (run three (later_restart a)).now 0 ≢ (run three (later_restart a)).now 1
later_restart-differs a p = differs ((run three (later_restart a)).now 0) ((run three (later_restart a)).now 1) a (simp p) (simp p)

-- 0 took a receipt, answered, and started again without it. Both took each other's answers since,
-- and then the old answer comes.
abbrev late_give : Receipt → List Event
late_give a = Take 0 a ∷ Ask 1 1 ∷ Answer 0 0 ∷ Restart 0 ∷ Ask 1 1 ∷ Answer 0 2 ∷ Absorb 1 3 ∷ Ask 0 1 ∷ Answer 1 4 ∷ Absorb 0 5 ∷ Absorb 1 1 ∷ []

-- Replicas 0 and 1 do not agree then: no answer from before may come in between.
late_give-differs : (a : Receipt) → bucket_of_id a ≡ 1 → (run three (late_give a)).now 1 ≢ (run three (late_give a)).now 0
late_give-differs a p = differs ((run three (late_give a)).now 1) ((run three (late_give a)).now 0) a (simp p) (simp p)

-- ---- one takes all that another holds

-- the receipts and the record of all three
joined_to-same : (a b : Receipt) (x : Distrust) → AreApart a b x → (run three (starts a b x ++ (Join 1 2 ∷ Join 0 1 ∷ []))).now 0 ≡ all_of a b x
joined_to-same a b x h = simp (h.less, h.greater)
