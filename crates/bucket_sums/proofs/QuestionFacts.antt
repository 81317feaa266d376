-- Pieces of a question.
use Rattle.std.proofs.Common.{◌≡◌, ◌≢◌, ◌∙◌, ℕ, ◌+◌, ◌<◌, inl, inr, Bool, true, false, List, [], ◌∷◌, ◌++◌, length, take, drop, get_or}
use Rattle.std.proofs.Common.{refl, sym, ap, subst, arith, append_assoc, append-nil, length-append, take-append-drop}
use Rattle.std.specs.Prelude.{Option, Some, None}
use Rattle.std.specs.List.{AllByRecursion}
use Rattle.std.proofs.lemmas.List.{length-take, take_all}
use Rattle.std.proofs.lemmas.Grind.{flat_map-append}
use Rattle.fed_config.specs.Configuration.{Configuration}
use Rattle.replica_core.specs.declared.error.SyncError.{SyncError}
use Rattle.replica_texts.specs.Snapshots.{ended, text_of_lines}
use Rattle.replica_texts.specs.SoleLines.{written_header}
use Rattle.replica_sync.specs.Pieces.{EndsLine, Continues, kept_part, piece_run}
use Rattle.replica_sync.specs.PullSessions.{EndsInFeed}
use Rattle.replica_sync.proofs.PullStepFacts.{feed_last}
use Rattle.bucket_sums.specs.Lines.{IsSumLine, differences, differs, part_count}
use Rattle.bucket_sums.specs.Questions.{RefusesText, StopsAtLine, headed, longest_line}
use Rattle.bucket_sums.specs.Serving.{HasQuestionPart, TakesToLine}
use Rattle.bucket_sums.specs.Inside.Comparing.{marks_so_far, own_sums}
use Rattle.bucket_sums.specs.Inside.QuestionSteps.{FailsQuestion, RefusesQuestionLine, StepsQuestion, TakesLineWhere}
use Rattle.bucket_sums.specs.declared.question_lines.QuestionLines.{QuestionLines}
use Rattle.bucket_sums.specs.declared.sums_serving.SumsServing.{SumsServing}
use Rattle.bucket_sums.proofs.CompareFacts.{differences-more, length-differences}

-- What is not there is absent.
pub no_fault : (f : Option SyncError) → ((why : SyncError) → f ≡ Some why → ⊥) → f ≡ None
no_fault None none = refl
no_fault (Some why) none = absurd (none why refl)

-- If a line ended, what was kept and the piece are its text, a line feed and the rest.
pub ended_text : (old piece text : List ℕ) (used : ℕ) → old ++ take used piece ≡ text ++ (10 ∷ []) → old ++ piece ≡ text ++ (10 ∷ drop used piece)
ended_text old piece text used parts =
    ap (λ (l : List ℕ). old ++ l) (sym (take-append-drop used piece))
    ∙ sym (append_assoc old (take used piece) (drop used piece))
    ∙ ap (λ (l : List ℕ). l ++ drop used piece) parts ∙ append_assoc text (10 ∷ []) (drop used piece)

-- The bytes of a piece that end a line end in its line feed.
pub line_feed : (old piece text : List ℕ) (used : ℕ) → EndsLine (piece_run longest_line old piece) used text → EndsInFeed (take used piece)
line_feed old piece text used ends =
    let size = length-take used piece in
    let some = ends.some in
    let within = ends.within in
    feed_last old (take used piece) text (omega (arith, size, some, within)) ends.parts

-- A call takes all of its piece, or the bytes up to the end of a line.
pub question_taken : (config : Configuration) (old new : SumsServing) (piece : List ℕ) (used : ℕ) (Ended : Type 0)
    → StepsQuestion config old piece used new → TakesToLine Ended piece used
question_taken config old new piece used Ended (inl on) less = absurd (let all = on.all in omega (arith, all, less))
question_taken config old new piece used Ended (inr ended) less = inl (line_feed (kept_part old.part) piece ended.text used ended.ends)

-- A line that ended and is refused is an error of the question.
pub line_fails : (config : Configuration) (serving : SumsServing) (piece : List ℕ) (used : ℕ) (text : List ℕ) (e : SyncError)
    → EndsLine (piece_run longest_line (kept_part serving.part) piece) used text
    → RefusesQuestionLine config serving.question text e → FailsQuestion config serving piece e
line_fails config serving piece used text e ends why = record {
  text = text;
  plain = ends.plain;
  rest = 10 ∷ drop used piece;
  bytes = ended_text (kept_part serving.part) piece text used ends.parts;
  cause = elim why [ inl memory ↦ inl memory | inr refused ↦ inr (inr (record { after = drop used piece; feed = refl }, refused)) ];
}

-- Bytes more after what came, which is lines and what was kept.
pub came_more : (came front kept more new : List ℕ) → came ≡ front ++ kept → kept ++ more ≡ new → came ++ more ≡ front ++ new
came_more came front kept more new e k = ap (λ (l : List ℕ). l ++ more) e ∙ append_assoc front kept more ∙ ap (λ (l : List ℕ). front ++ l) k

-- What holds of each line and of one more holds of all.
all_more : (P : List ℕ → Type 0) (lines : List (List ℕ)) (line : List ℕ) → AllByRecursion P lines → P line → AllByRecursion P (lines ++ line ∷ [])
all_more P [] line h p = (p, tt)
all_more P (first ∷ lines) line h p = (h.0, all_more P lines line h.1 p)

-- The text of lines with one more.
pub lines_more : (lines : List (List ℕ)) (line : List ℕ) → text_of_lines (lines ++ line ∷ []) ≡ text_of_lines lines ++ ended line
lines_more lines line = flat_map-append ended lines (line ∷ []) ∙ ap (λ (l : List ℕ). text_of_lines lines ++ l) (append-nil (ended line))

-- No line ended: a longer beginning of the next one is kept.
continues : (config : Configuration) (question : QuestionLines) (kept piece new came : List ℕ) (used : ℕ)
    → (length question.sums.marks.items ≡ part_count → ⊥) → Continues (piece_run longest_line kept piece) new → used ≡ length piece
    → HasQuestionPart config question kept came → HasQuestionPart config question new (came ++ take used piece)
continues config question kept piece new came used more goes all part = record {
  lines = part.lines;
  each = part.each;
  few = part.few;
  none = part.none;
  bytes =
      came_more came (text_of_lines (headed config question.is_begun part.lines)) kept (take used piece) new part.bytes
      (ap (λ (l : List ℕ). kept ++ l) (take_all used piece (let e = all in omega (arith, e))) ∙ sym goes.kept);
  marks = part.marks;
  whole = λ asked. absurd (more asked);
}

-- The first line came.
takes_first : (config : Configuration) (old new : QuestionLines) (kept piece text came : List ℕ) (used : ℕ)
    → old.is_begun ≡ false → kept ++ take used piece ≡ text ++ (10 ∷ []) → text ≡ written_header config
    → new.is_begun ≡ true → new.sums ≡ old.sums
    → HasQuestionPart config old kept came → HasQuestionPart config new [] (came ++ take used piece)
takes_first config old new kept piece text came used waits parts is begun same part =
    let nothing : part.lines ≡ [] = part.none waits in
    let before : came ≡ kept = part.bytes ∙ ap (λ (b : Bool). text_of_lines (headed config b part.lines) ++ kept) waits in
    record {
      lines = [];
      each = tt;
      few = omega arith;
      none = λ _. refl;
      bytes =
          ap (λ (l : List ℕ). l ++ take used piece) before ∙ parts ∙ ap ended is
          ∙ sym (append-nil (ended (written_header config))) ∙ sym (append-nil (ended (written_header config) ++ []))
          ∙ ap (λ (b : Bool). text_of_lines (headed config b []) ++ []) (sym begun);
      marks =
          ap marks_so_far same ∙ part.marks ∙ ap (λ (l : List (List ℕ)). differences l (own_sums old.sums)) nothing;
      whole = λ _. refl;
    }

-- The line of a sum came.
takes_sum : (config : Configuration) (old new : QuestionLines) (kept piece text came : List ℕ) (used : ℕ)
    → old.is_begun ≡ true → kept ++ take used piece ≡ text ++ (10 ∷ []) → new.is_begun ≡ true → IsSumLine text
    → own_sums new.sums ≡ own_sums old.sums
    → marks_so_far new.sums ≡ marks_so_far old.sums ++ differs text (get_or (own_sums old.sums) (length (marks_so_far old.sums)) []) ∷ []
    → length (own_sums old.sums) ≡ part_count → (length (marks_so_far old.sums) ≡ part_count → ⊥)
    → HasQuestionPart config old kept came → HasQuestionPart config new [] (came ++ take used piece)
takes_sum config old new kept piece text came used was parts begun is own marks all more part =
    let few = part.few in
    let count : length (marks_so_far old.sums) ≡ length part.lines =
    ap length part.marks ∙ length-differences part.lines (own_sums old.sums) (omega (arith, few, all)) in
    let open_ : length part.lines ≢ part_count = λ e. more (count ∙ e) in
    let below : length part.lines < part_count = omega (arith, few, open_) in
    record {
      lines = part.lines ++ text ∷ [];
      each = all_more IsSumLine part.lines text part.each is;
      few = let sum = length-append part.lines (text ∷ []) in omega (arith, sum, below);
      none = λ e. absurd (let no : true ≡ false = sym begun ∙ e in cc);
      bytes =
          came_more came (text_of_lines (written_header config ∷ part.lines)) kept (take used piece) (ended text)
          (part.bytes ∙ ap (λ (b : Bool). text_of_lines (headed config b part.lines) ++ kept) was) parts
          ∙ sym (lines_more (written_header config ∷ part.lines) text)
          ∙ sym (append-nil (text_of_lines (written_header config ∷ (part.lines ++ text ∷ []))))
          ∙ ap (λ (b : Bool). text_of_lines (headed config b (part.lines ++ text ∷ [])) ++ []) (sym begun);
      marks =
          marks
          ∙ ap (λ (n : ℕ). marks_so_far old.sums ++ differs text (get_or (own_sums old.sums) n []) ∷ []) count
          ∙ ap (λ (m : List Bool). m ++ differs text (get_or (own_sums old.sums) (length part.lines) []) ∷ []) part.marks
          ∙ sym (differences-more part.lines text (own_sums old.sums) (omega (arith, below, all)))
          ∙ ap (differences (part.lines ++ text ∷ [])) (sym own);
      whole = λ _. refl;
    }

-- A line came.
takes_line : (begun : Bool) (config : Configuration) (old new : QuestionLines) (kept piece text came : List ℕ) (used : ℕ)
    → old.is_begun ≡ begun → kept ++ take used piece ≡ text ++ (10 ∷ []) → TakesLineWhere begun config old text new
    → length (own_sums old.sums) ≡ part_count → (length (marks_so_far old.sums) ≡ part_count → ⊥)
    → HasQuestionPart config old kept came → HasQuestionPart config new [] (came ++ take used piece)
takes_line false config old new kept piece text came used was parts takes all more part =
    takes_first config old new kept piece text came used was parts takes.is takes.begun takes.same part
takes_line true config old new kept piece text came used was parts takes all more part =
    takes_sum config old new kept piece text came used was parts takes.begun takes.compared.is takes.compared.own
    takes.compared.marks all more part

-- A piece was taken, up to the end of a line at most.
pub part_more : (config : Configuration) (old new : SumsServing) (piece came : List ℕ) (used : ℕ)
    → length (own_sums old.question.sums) ≡ part_count → (length (marks_so_far old.question.sums) ≡ part_count → ⊥)
    → StepsQuestion config old piece used new → HasQuestionPart config old.question (kept_part old.part) came
    → HasQuestionPart config new.question (kept_part new.part) (came ++ take used piece)
part_more config old new piece came used all more steps part =
    elim steps [
      | inl goes ↦
          subst (λ q. HasQuestionPart config q (kept_part new.part) (came ++ take used piece)) (sym goes.same)
          (continues config old.question (kept_part old.part) piece (kept_part new.part) came used more goes.goes goes.all part)
      | inr ends ↦
          subst (λ k. HasQuestionPart config new.question k (came ++ take used piece)) (sym ends.kept)
          (takes_line old.question.is_begun config old.question new.question (kept_part old.part) piece ends.text came used refl
          ends.ends.parts ends.takes all more part)
    ]

-- An error of the piece is one of all that came.
pub part_stops : (config : Configuration) (old : SumsServing) (piece came : List ℕ) (e : SyncError)
    → length (own_sums old.question.sums) ≡ part_count → FailsQuestion config old piece e
    → HasQuestionPart config old.question (kept_part old.part) came → StopsAtLine IsSumLine config (came ++ piece) e
part_stops config old piece came e all fails part =
    let few = part.few in
    let count : length (marks_so_far old.question.sums) ≡ length part.lines =
    ap length part.marks ∙ length-differences part.lines (own_sums old.question.sums) (omega (arith, few, all)) in
    record {
      begun = old.question.is_begun;
      lines = part.lines;
      each = part.each;
      text = fails.text;
      plain = fails.plain;
      rest = fails.rest;
      bytes =
          came_more came (text_of_lines (headed config old.question.is_begun part.lines)) (kept_part old.part) piece
          (fails.text ++ fails.rest) part.bytes fails.bytes;
      cause = subst (λ n. RefusesText IsSumLine config old.question.is_begun n fails.text fails.rest e) count fails.cause;
    }
