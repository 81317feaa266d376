-- Which records are answered with, piece by piece.
use Rattle.std.proofs.Common.{◌≡◌, ◌∙◌, ℕ, ◌==◌, ◌||◌, Bool, true, false, not, List, [], ◌∷◌, ◌++◌}
use Rattle.std.proofs.Common.{refl, sym, ap, append_assoc, append-nil}
use Rattle.receipt_core.specs.Acceptance.{Meaning}
use Rattle.replica_sync.specs.ServedPieces.{Came, bytes_came}
use Rattle.replica_sync.specs.AnsweredFrom.{answered_from}
use Rattle.replica_sync.specs.declared.answer_records.AnswerRecords.{AnswerRecords}
use Rattle.replica_sync.specs.declared.answer_records.AnswerRecords.TheVariants.{All}
use Rattle.bucket_sums.specs.RecordsOnce.{has_feed, left_out_if, records_due, shown_at, shown_once}

-- With all records it is what is held.
pub whole_shown : (records : AnswerRecords) (m : Meaning) → records ≡ All → answered_from records m ≡ m
whole_shown records m all = ap (λ (r : AnswerRecords). answered_from r m) all

-- One piece more comes last.
pub shown_more : (differ : Bool) (before : List ℕ) (came : List Came) (c : Came)
    → shown_once differ before (came ++ c ∷ []) ≡ shown_once differ before came ++ shown_at differ (before ++ bytes_came came) c ∷ []
shown_more differ before [] c = ap (λ (l : List ℕ). shown_at differ l c ∷ []) (sym (append-nil before))
shown_more differ before (d ∷ came) c =
    ap (λ (l : List Came). shown_at differ before d ∷ l)
    (shown_more differ (before ++ d.bytes) came c
    ∙ ap (λ (l : List ℕ). shown_once differ (before ++ d.bytes) came ++ shown_at differ l c ∷ []) (append_assoc before d.bytes (bytes_came came)))

-- A line ended in one of two texts.
either : (a b c : Bool) → (a || b) || c ≡ a || (b || c)
either true b c = refl
either false b c = refl

pub feed_append : (xs ys : List ℕ) → has_feed (xs ++ ys) ≡ has_feed xs || has_feed ys
feed_append [] ys = refl
feed_append (x ∷ xs) ys = ap (λ (b : Bool). (x == 10) || b) (feed_append xs ys) ∙ sym (either (x == 10) (has_feed xs) (has_feed ys))

-- After a piece they are left out if a line ended in it.
due_next : (differ ended more : Bool) → left_out_if more (records_due differ ended) ≡ records_due differ (ended || more)
due_next true true true = refl
due_next true true false = refl
due_next true false true = refl
due_next true false false = refl
due_next false true true = refl
due_next false true false = refl
due_next false false true = refl
due_next false false false = refl

pub due_after : (differ : Bool) (before bytes : List ℕ)
    → left_out_if (has_feed bytes) (records_due differ (has_feed before)) ≡ records_due differ (has_feed (before ++ bytes))
due_after differ before bytes =
    due_next differ (has_feed before) (has_feed bytes) ∙ ap (records_due differ) (sym (feed_append before bytes))

-- At first they are left out if they do not differ.
pub due_first : (differ : Bool) → left_out_if (not differ) All ≡ records_due differ false
due_first true = refl
due_first false = refl
