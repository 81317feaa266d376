-- A session that begins with sums is a course by sums of a world of replicas.
use Rattle.std.proofs.Common.{◌≡◌, ◌∙◌, ℕ, suc, ◌+◌, ◌<◌, inl, inr, Bool, true, false, List, [], ◌∷◌, length, get_or}
use Rattle.std.proofs.Common.{sym, ap, subst, arith}
use Rattle.std.specs.Prelude.{Some, slice_get}
use Rattle.std.proofs.lemmas.Bool.{cases_Bool}
use Rattle.receipt_core.specs.Acceptance.{Meaning}
use Rattle.receipt_core.proofs.RisingFacts.{Has}
use Rattle.replica_core.specs.Convergence.{Comparison, ExchangeOf, Peers, SumsCourse, about, after_marks, answerer_held, asker_held, at_sums}
use Rattle.replica_core.specs.Session.{HaveMessage, give_of, state_of}
use Rattle.replica_core.specs.State.{State, ids_held}
use Rattle.replica_core.specs.World.{Rules, World, apply, give_sent, happens, have_sent, sends, without_records}
use Rattle.replica_core.specs.declared.event.Event.{Event}
use Rattle.replica_core.specs.declared.event.Event.TheVariants.{AnswerReceipts}
use Rattle.replica_core.proofs.ExchangeFacts.{content_of, receipts-is, with_message}
use Rattle.replica_sync.specs.AnsweredFrom.{answered_from}
use Rattle.replica_sync.specs.declared.answer_records.AnswerRecords.TheVariants.{LeftOut}
use Rattle.bucket_sums.specs.Changing.{AsksMarkedParts}
use Rattle.bucket_sums.specs.Sessions.{buckets_asked}
use Rattle.bucket_sums.specs.Sums.{HasDistinctSums, marks_between}
use Rattle.bucket_sums.proofs.LawFacts.{length-marks, same_ids, same_records}
use Rattle.bucket_sums.proofs.QuietLawFacts.{asked_below, item_has}
use Rattle.bucket_sums.proofs.SessionFacts.{asked-has, some-asked}

-- An item of a list of numbers has a place.
pub place_of : (xs : List ℕ) (x : ℕ) → Has xs x → (place : ℕ) × (place < length xs) × (get_or xs place 0 ≡ x)
place_of [] x h = absurd h
place_of (y ∷ xs) x (inl e) = (0, omega arith, e)
place_of (y ∷ xs) x (inr later) = let found = place_of xs x later in let within = found.1 in (suc found.0, omega (arith, within), found.2)

module _ {p : Peers} {events : List Event} (rules : Rules) (start : World) (c : Comparison p events) (marks : List Bool) (one other : State)
    (sums : HasDistinctSums one other) (are : marks ≡ marks_between one other)
    (own : asker_held rules start c ≡ one) (theirs : answerer_held rules start c ≡ other)
    (asks : AsksMarkedParts rules start c marks) where
  all : length marks ≡ 257
  all = ap length are ∙ length-marks one other

  -- A mark of these is one of both states.
  unset_between : (place : ℕ) → get_or marks place true ≡ false → get_or (marks_between one other) place true ≡ false
  unset_between place unset = ap (λ ms. get_or ms place true) (sym are) ∙ unset

  -- Marks of both, and answers about what they mark, make the course.
  pub marked_course : c.place ≡ length (at_sums rules start c).sent → SumsCourse rules start p events
  marked_course place =
      let many = all in
      record {
        compared = c;
        asked_at = place;
        records = elim (cases_Bool (get_or marks 0 true)) [
          | inl set ↦
              let few = item_has (λ b. b < 256) (buckets_asked marks) 0 (asked_below marks many) (some-asked marks (omega (arith, many)) set) in
              inr (get_or (buckets_asked marks) 0 0, omega (arith, few), asks.first set)
          | inr unset ↦
              inl (ap (λ (s : State). s.records) own ∙ same_records one other sums (unset_between 0 unset) ∙ ap (λ (s : State). s.records) (sym theirs))
        ];
        buckets = λ b small. elim (cases_Bool (get_or marks (suc b) true)) [
          | inl set ↦
              let found = place_of (buckets_asked marks) b (asked-has marks b (omega (arith, small, many)) set) in
              inr (subst (λ k. (full : Bool) × ExchangeOf full rules (after_marks rules start c) (about p k) c.after) found.2 (asks.each found.0 found.1))
          | inr unset ↦
              let at : b + 1 ≡ suc b = omega arith in
              inl (ap (λ (s : State). ids_held s b) own
              ∙ same_ids one other b (omega (arith, small)) sums (ap (λ n. get_or (marks_between one other) n true) at ∙ unset_between (suc b) unset)
              ∙ ap (λ (s : State). ids_held s b) (sym theirs))
        ];
      }

-- What is answered with the records left out is what a replica sends in the world by answering
-- without them.
pub receipts_sent : (k : Meaning) (have : HaveMessage) (rules : Rules) (j asker place : ℕ) (w : World) → j < rules.replicas → w.now j ≡ state_of k
    → slice_get w.sent place ≡ Some (have_sent asker have.bucket have.ids)
    → happens rules w (AnswerReceipts j place)
    ≡ apply rules.limits w (sends (give_sent j place (give_of (answered_from LeftOut k) have).content))
receipts_sent k have rules j asker place w l here there =
    receipts-is rules w asker j have.bucket place have.ids l there
    ∙ ap (λ (s : State). with_message w (give_sent j place (content_of (without_records s) have.bucket have.ids))) here
