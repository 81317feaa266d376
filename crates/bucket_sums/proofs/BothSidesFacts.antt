-- A session over sums, by the bytes of both sides.
use Rattle.std.proofs.Common.{◌≡◌, ◌∙◌, ℕ, ◌+◌, ◌<◌, ◌⊎◌, inl, inr, Bool, true, false, List, [], ◌∷◌, ◌++◌, length, map, zero, suc, get_or}
use Rattle.std.proofs.Common.{refl, sym, ap, subst, arith, append_assoc, length-append}
use Rattle.std.specs.Prelude.{Some, None, decimal}
use Rattle.std.specs.List.{AllByRecursion}
use Rattle.std.proofs.lemmas.Grind.{flat_map-append}
use Rattle.std.proofs.lemmas.List.{append_cancel_left, append_cancel_right, length-map}
use Rattle.hex.specs.Hex.{encode_lower}
use Rattle.fed_config.specs.Configuration.{Configuration, config_id_of}
use Rattle.receipt_core.specs.Receipt.{IsDigest}
use Rattle.receipt_core.specs.declared.distrust.Distrust.{Distrust}
use Rattle.receipt_core.proofs.RisingFacts.{Has}
use Rattle.receipt_core.specs.Acceptance.{IsMeaning, Meaning}
use Rattle.receipt_core.proofs.HexFacts.{length-encode_lower}
use Rattle.replica_core.specs.Session.{state_of}
use Rattle.replica_core.specs.State.{State, joined}
use Rattle.replica_texts.specs.Snapshots.{ended, header_of, text_of_lines}
use Rattle.replica_texts.specs.SoleLines.{written_header}
use Rattle.replica_sync.specs.PulledPieces.{AreAlone, PulledPiece, TakesInTurn, bytes_pulled}
use Rattle.replica_sync.specs.PullSessions.{HasPulledAbout, IsOverPulling, due_have, fault_of_pulling, kept_answer}
use Rattle.replica_sync.specs.Pulling.{HasDistinctIds}
use Rattle.replica_sync.specs.Plans.{answered_of}
use Rattle.replica_sync.specs.ServedPieces.{Came, HaveAndHeld, IsStill, bytes_came}
use Rattle.replica_sync.specs.declared.piece_pulling.Pulling.{Pulling}
use Rattle.replica_sync.proofs.PlanLawFacts.{AreBelow, plan_answered_each, plan_done}
use Rattle.replica_sync.proofs.ServeLawFacts.{AnsweredEach}
use Rattle.bucket_sums.specs.Lines.{IsSumLine, differences, mark_of, marks_line, part_count, sum_line, sums_text}
use Rattle.bucket_sums.specs.Questions.{sums_answer, sums_question}
use Rattle.bucket_sums.specs.Quiet.{AnswersQuestion}
use Rattle.bucket_sums.specs.QuietPulls.{AsksMarked}
use Rattle.bucket_sums.specs.RecordsOnce.{shown_once}
use Rattle.bucket_sums.specs.Sessions.{buckets_asked}
use Rattle.bucket_sums.specs.Sums.{HasDistinctSums, bucket_sums_from, marks_between, sums_of}
use Rattle.bucket_sums.proofs.LawFacts.{is_digest, length-marks, length-sums, same_records}
use Rattle.bucket_sums.proofs.QuietFacts.{ended_still}
use Rattle.bucket_sums.proofs.QuietLawFacts.{asked_below, came_all, item_has}
use Rattle.bucket_sums.proofs.QuietPullFacts.{ends_alone}
use Rattle.bucket_sums.proofs.SessionFacts.{both-held, formed}
use Rattle.bucket_sums.proofs.ShownFacts.{HasRecords, IsFirst, after_shown, own_haves, shown_bytes, shown_forms, shows_once}

-- ---- two texts of one beginning

-- Two fronts of one length of a list are equal, and so are the rests.
same_cut : {A : Type 0} (a b x y : List A) → length a ≡ length b → a ++ x ≡ b ++ y → (a ≡ b) × (x ≡ y)
same_cut [] [] x y n e = (refl, e)
same_cut [] (o ∷ b) x y n e = absurd (omega (arith, n))
same_cut (i ∷ a) [] x y n e = absurd (omega (arith, n))
same_cut {A} (i ∷ a) (o ∷ b) x y n e =
    let head : i ≡ o = cc in
    let tail : a ++ x ≡ b ++ y = cc in
    let later = same_cut a b x y (omega (arith, n)) tail in
    ((λ k. head k ∷ later.0 k), later.1)

-- Lines of sums with which a text begins are those with which the other begins.
same_lines : (sums lines : List (List ℕ)) (rest left : List ℕ) → AllByRecursion IsDigest sums → AllByRecursion IsSumLine lines
    → length lines ≡ length sums → text_of_lines lines ++ rest ≡ sums_text sums ++ left → (lines ≡ map encode_lower sums) × (rest ≡ left)
same_lines [] [] rest left digests each n e = (refl, e)
same_lines [] (l ∷ lines) rest left digests each n e = absurd (omega (arith, n))
same_lines (s ∷ sums) [] rest left digests each n e = absurd (omega (arith, n))
same_lines (s ∷ sums) (l ∷ lines) rest left digests each n e =
    let own = each.0.size in
    let theirs = length-encode_lower s digests.0 in
    let a = length-append l (10 ∷ []) in
    let b = length-append (encode_lower s) (10 ∷ []) in
    let cut = same_cut (ended l) (sum_line s) (text_of_lines lines ++ rest) (sums_text sums ++ left) (omega (arith, own, theirs, a, b))
    (sym (append_assoc (ended l) (text_of_lines lines) rest) ∙ e ∙ append_assoc (sum_line s) (sums_text sums) left) in
    let line : l ≡ encode_lower s = append_cancel_right l (encode_lower s) (10 ∷ []) cut.0 in
    let later = same_lines sums lines rest left digests.1 each.1 (omega (arith, n)) cut.1 in
    ((λ k. line k ∷ later.0 k), later.1)

-- A mark is that of its byte.
mark_back : (m n : Bool) → mark_of m ≡ mark_of n → m ≡ n
mark_back true true e = refl
mark_back false false e = refl
mark_back true false e = absurd (omega (arith, e))
mark_back false true e = absurd (omega (arith, e))

-- Marks are those of their line.
marks_back : (ms ns : List Bool) → marks_line ms ≡ marks_line ns → ms ≡ ns
marks_back [] [] e = refl
marks_back [] (n ∷ ns) e = absurd (cc)
marks_back (m ∷ ms) [] e = absurd (cc)
marks_back (m ∷ ms) (n ∷ ns) e =
    let first : mark_of m ≡ mark_of n = cc in
    let others : marks_line ms ≡ marks_line ns = cc in
    let head = mark_back m n first in
    let tail = marks_back ms ns others in
    λ k. head k ∷ tail k

-- Configurations of one digest have one first line.
same_header : (c d : Configuration) → config_id_of c ≡ config_id_of d → written_header c ≡ written_header d
same_header c d same = ap (λ (id : List ℕ). header_of (encode_lower id) (decimal 2)) same

-- Sums are digests.
digests_from : (state : State) (first count : ℕ) → AllByRecursion IsDigest (bucket_sums_from state first count)
unfolding bucket_sums_from
digests_from state first zero = tt
digests_from state first (suc count) = (is_digest _, digests_from state (first + 1) count)

digests : (state : State) → AllByRecursion IsDigest (sums_of state)
digests state = (is_digest _, digests_from state 0 256)

-- ---- the question and its answer

-- The marks that came are those of both, and what follows them at one side is what follows them at the other.
pub record AreMarksOfBoth (marks : List Bool) (differ : Bool) (m k : Meaning) (rest after left more : List ℕ) : Type 0 where
  pub are : marks ≡ marks_between (state_of m) (state_of k)
  pub records : differ ≡ get_or (marks_between (state_of m) (state_of k)) 0 true
  pub asked : rest ≡ after
  pub replied : left ≡ more

-- The lines that came are those of the question.
question_lines : (m : Meaning) (config : Configuration) (lines : List (List ℕ)) (rest after : List ℕ) → config_id_of m.config ≡ config_id_of config
    → AllByRecursion IsSumLine lines → length lines ≡ part_count
    → text_of_lines (written_header config ∷ lines) ++ rest ≡ sums_question m.config (sums_of (state_of m)) ++ after
    → (lines ≡ map encode_lower (sums_of (state_of m))) × (rest ≡ after)
question_lines m config lines rest after same each all e =
    let sums = sums_of (state_of m) in
    let header = same_header m.config config same in
    let many = length-sums (state_of m) in
    same_lines sums lines rest after (digests (state_of m)) each (all ∙ sym many)
    (append_cancel_left (ended (written_header config)) (text_of_lines lines ++ rest) (sums_text sums ++ after)
    (sym (append_assoc (ended (written_header config)) (text_of_lines lines) rest) ∙ e
    ∙ append_assoc (ended (written_header m.config)) (sums_text sums) after
    ∙ ap (λ (h : List ℕ). ended h ++ (sums_text sums ++ after)) header))

-- The marks that came are those that were written.
answer_marks : (c config : Configuration) (marks own : List Bool) (left more : List ℕ) → config_id_of c ≡ config_id_of config
    → length marks ≡ length own → sums_answer c marks ++ left ≡ sums_answer config own ++ more → (marks ≡ own) × (left ≡ more)
answer_marks c config marks own left more same many e =
    let header = same_header c config same in
    let a = length-append (marks_line marks) (10 ∷ []) in
    let b = length-append (marks_line own) (10 ∷ []) in
    let one = length-map marks mark_of in
    let other = length-map own mark_of in
    let cut = same_cut (ended (marks_line marks)) (ended (marks_line own)) left more (omega (arith, a, b, one, other, many))
    (append_cancel_left (ended (written_header config)) (ended (marks_line marks) ++ left) (ended (marks_line own) ++ more)
    (ap (λ (h : List ℕ). ended h ++ (ended (marks_line marks) ++ left)) (sym header)
    ∙ sym (append_assoc (ended (written_header c)) (ended (marks_line marks)) left) ∙ e
    ∙ append_assoc (ended (written_header config)) (ended (marks_line own)) more)) in
    (marks_back marks own (append_cancel_right (marks_line marks) (marks_line own) (10 ∷ []) cut.0), cut.1)

pub compared_marks : (pulling : Pulling) (m : Meaning) (config : Configuration) (came : List PulledPiece) (asked : List Came)
    (written said rest left more : List ℕ) (differ : Bool) → config_id_of m.config ≡ config_id_of config → (marked : AsksMarked pulling m came written)
    → (question : AnswersQuestion config asked said differ) → bytes_came asked ++ rest ≡ written
    → bytes_pulled marked.asked ++ left ≡ said ++ more
    → AreMarksOfBoth marked.marks differ m question.held rest marked.after left more
compared_marks pulling m config came asked written said rest left more differ same marked question is said_is =
    let own = marks_between (state_of m) (state_of question.held) in
    let lines = question_lines m config question.lines rest marked.after same question.each question.all
    (ap (λ (l : List ℕ). l ++ rest) (sym question.bytes) ∙ is ∙ marked.parts) in
    let between : differences question.lines (sums_of (state_of question.held)) ≡ own =
    ap (λ (l : List (List ℕ)). differences l (sums_of (state_of question.held))) lines.0 in
    let answer : said ≡ sums_answer config own = question.said_is ∙ ap (sums_answer config) between in
    let marks = answer_marks m.config config marked.marks own left more same (marked.all ∙ sym (length-marks (state_of m) (state_of question.held)))
    (ap (λ (l : List ℕ). l ++ left) (sym marked.bytes) ∙ said_is ∙ ap (λ (l : List ℕ). l ++ more) answer) in
    record {
      are = marks.0;
      records = question.records ∙ ap (λ (ms : List Bool). get_or ms 0 true) between;
      asked = lines.1;
      replied = marks.1;
    }

-- If the answerer held the same while the question came, they are those of what it held.
pub answered_marks : (pulling : Pulling) (m k : Meaning) (config : Configuration) (came : List PulledPiece) (asked : List Came)
    (written said rest left more : List ℕ) (differ : Bool) → config_id_of m.config ≡ config_id_of config → (marked : AsksMarked pulling m came written)
    → AnswersQuestion config asked said differ → IsStill k asked → bytes_came asked ++ rest ≡ written
    → bytes_pulled marked.asked ++ left ≡ said ++ more
    → AreMarksOfBoth marked.marks differ m k rest marked.after left more
answered_marks pulling m k config came asked written said rest left more differ same marked question still is said_is =
    subst (λ (h : Meaning). AreMarksOfBoth marked.marks differ m h rest marked.after left more)
    (ended_still asked question.held k question.was still)
    (compared_marks pulling m config came asked written said rest left more differ same marked question is said_is)

-- ---- the whole session

-- what is held between two parts of the pieces
record Halves (before : Meaning) (first second : List PulledPiece) (after : Meaning) : Type 0 where
  pub then : Meaning
  pub before_it : AreAlone before first then
  pub after_it : AreAlone then second after

-- Pieces between which nothing changes are two such parts.
halves : (before : Meaning) (first second : List PulledPiece) (after : Meaning) → AreAlone before (first ++ second) after
    → Halves before first second after
halves before [] second after h = record { then = before; before_it = refl; after_it = h }
halves before (c ∷ first) second after h =
    let rest = halves c.new first second after h.1 in
    record { then = rest.then; before_it = (h.0, rest.before_it); after_it = rest.after_it }

-- Pieces of which nothing is taken leave what is held.
quiet_alone : (before : Meaning) (came : List PulledPiece) (after : Meaning) → AreAlone before came after → TakesInTurn came [] → after ≡ before
quiet_alone before [] after h takes = h
quiet_alone before (c ∷ came) after h takes = quiet_alone c.new came after h.1 takes.1 ∙ takes.0 ∙ h.0

-- The records are held, or the first answer has them.
has_or_first : (differ : Bool) (m k : Meaning) (asked : List HaveAndHeld) → HasDistinctSums (state_of m) (state_of k)
    → differ ≡ get_or (marks_between (state_of m) (state_of k)) 0 true → (differ ≡ true → IsFirst k asked)
    → HasRecords k (state_of m) ⊎ IsFirst k asked
has_or_first true m k asked sums is first = inr (first refl)
has_or_first false m k asked sums is first =
    inl (λ x has. subst (λ (xs : List Distrust). Has xs x) (sym (same_records (state_of m) (state_of k) sums (sym is))) has)

-- After answers about the buckets that are marked, of which the first has the records if they differ, what is held is what both held together.
once_joined : (p : Pulling) (m k held : Meaning) (came : List PulledPiece) (written replied rest : List ℕ) (later : List Came) (differ : Bool)
    → IsMeaning m → IsMeaning k → IsMeaning held → config_id_of m.config ≡ config_id_of k.config
    → HasDistinctSums (state_of m) (state_of k) → HasDistinctIds (joined (state_of m) (state_of k))
    → HasPulledAbout (Some (buckets_asked (marks_between (state_of m) (state_of k)))) p m came written → AreAlone m came held
    → fault_of_pulling p ≡ None → IsOverPulling p → due_have p ≡ [] → differ ≡ get_or (marks_between (state_of m) (state_of k)) 0 true
    → AnsweredEach (shown_once differ [] later) replied → IsStill k later → bytes_came later ≡ written
    → bytes_pulled came ++ rest ≡ replied → state_of held ≡ joined (state_of m) (state_of k)
once_joined p m k held came written replied rest later differ valid other kept same sums ids h alone sound over idle is answered still bytes begins =
    let marks = marks_between (state_of m) (state_of k) in
    let buckets = buckets_asked marks in
    let whole = came_all (Some buckets) (fault_of_pulling p) (answered_of p.plan) p.lines m came (kept_answer p) written (due_have p) sound over idle
    h.pulls in
    let done = plan_done (Some buckets) p.lines m held came written whole alone in
    let below : AreBelow (Some buckets) = λ place within.
    item_has (λ b. b < 256) buckets place (asked_below marks (length-marks (state_of m) (state_of k))) within in
    let shows = shows_once k differ later answered.asked still answered.lines in
    let there = plan_answered_each (Some buckets) m held k.config came written replied rest answered.asked below valid kept same done
    (own_haves k answered.asked shows.each answered.own)
    (sym bytes ∙ sym (shown_bytes differ [] later) ∙ answered.text)
    (shown_forms k answered.asked other shows.each answered.own) answered.said begins in
    let all_came = done.many in
    let many : 0 + length done.gives ≡ length buckets = omega (arith, all_came) in
    ap state_of done.meaning
    ∙ after_shown m.config k buckets 0 (state_of m) done.gives answered.asked other (formed m valid) shows.each
    (has_or_first differ m k answered.asked sums is shows.first) there.haves there.gives_are many
    ∙ both-held m k valid other sums ids

-- After the session what is held is what both held together.
pub both_joined : (pulling : Pulling) (m k held : Meaning) (came : List PulledPiece) (asked later : List Came) (written said replied left : List ℕ)
    (differ : Bool) → IsMeaning m → IsMeaning k → IsMeaning held → config_id_of m.config ≡ config_id_of k.config
    → HasDistinctSums (state_of m) (state_of k) → HasDistinctIds (joined (state_of m) (state_of k))
    → AsksMarked pulling m came written → AreAlone m came held → fault_of_pulling pulling ≡ None → IsOverPulling pulling → due_have pulling ≡ []
    → AnswersQuestion k.config asked said differ → IsStill k asked → IsStill k later → AnsweredEach (shown_once differ [] later) replied
    → bytes_came (asked ++ later) ≡ written → bytes_pulled came ++ left ≡ said ++ replied → state_of held ≡ joined (state_of m) (state_of k)
both_joined pulling m k held came asked later written said replied left differ valid other kept same sums ids marked alone sound over idle question still
    still_later answered is said_is =
    let one =
    answered_marks pulling m k k.config came asked written said (bytes_came later) (bytes_pulled marked.later ++ left) replied differ same marked question
    still (sym (flat_map-append (λ (c : Came). c.bytes) asked later) ∙ is)
    (sym (append_assoc (bytes_pulled marked.asked) (bytes_pulled marked.later) left)
    ∙ ap (λ (l : List ℕ). l ++ left) (sym (flat_map-append (λ (c : PulledPiece). c.bytes) marked.asked marked.later))
    ∙ ap (λ (ps : List PulledPiece). bytes_pulled ps ++ left) (sym marked.order) ∙ said_is) in
    let parts = halves m marked.asked marked.later held (subst (λ (ps : List PulledPiece). AreAlone m ps held) marked.order alone) in
    let then_is : parts.then ≡ m = quiet_alone m marked.asked parts.then parts.before_it marked.quiet in
    let start_is : marked.then ≡ m = ends_alone m parts.then marked.then marked.asked marked.was parts.before_it ∙ then_is in
    once_joined pulling m k held marked.later marked.after replied left later differ valid other kept same sums ids
    (subst (λ (ms : List Bool). HasPulledAbout (Some (buckets_asked ms)) pulling m marked.later marked.after) one.are
    (subst (λ (t : Meaning). HasPulledAbout (Some (buckets_asked marked.marks)) pulling t marked.later marked.after) start_is marked.pulls))
    (subst (λ (t : Meaning). AreAlone t marked.later held) then_is parts.after_it) sound over idle one.records answered still_later one.asked one.replied
