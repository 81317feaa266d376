-- Pieces of an answer.
use Rattle.std.proofs.Common.{◌≡◌, ◌∙◌, ℕ, inl, inr, Bool, true, false, List, [], ◌∷◌, ◌++◌, take, drop}
use Rattle.std.proofs.Common.{refl, sym, ap, subst, arith, append-nil}
use Rattle.std.specs.Prelude.{None}
use Rattle.std.proofs.lemmas.List.{take_all}
use Rattle.fed_config.specs.Configuration.{Configuration}
use Rattle.replica_core.specs.declared.error.SyncError.{SyncError}
use Rattle.replica_texts.specs.Snapshots.{ended, text_of_lines}
use Rattle.replica_texts.specs.SoleLines.{written_header}
use Rattle.replica_sync.specs.Pieces.{EndsLine, kept_part, piece_run}
use Rattle.bucket_sums.specs.Questions.{StopsAtLine, headed, longest_line}
use Rattle.bucket_sums.specs.Asking.{HasAnswerLines, IsLineOfMarks}
use Rattle.bucket_sums.specs.Serving.{TakesToLine}
use Rattle.bucket_sums.specs.Inside.AnswerSteps.{FailsAnswer, RefusesLineOfAnswer, StepsAnswer, TakesAnswerWhere}
use Rattle.bucket_sums.specs.declared.answer_part.AnswerPart.{AnswerPart}
use Rattle.bucket_sums.specs.declared.sums_asking.SumsAsking.{SumsAsking}
use Rattle.bucket_sums.proofs.QuestionFacts.{came_more, ended_text, line_feed}

-- A call takes all of its piece, or the bytes up to the end of a line.
pub answer_taken : (config : Configuration) (old new : SumsAsking) (piece : List ℕ) (used : ℕ) (Ended : Type 0)
    → StepsAnswer config old piece used new → TakesToLine Ended piece used
answer_taken config old new piece used Ended (inl on) less = absurd (let all = on.all in omega (arith, all, less))
answer_taken config old new piece used Ended (inr ended) less = inl (line_feed (kept_part old.part) piece ended.text used ended.ends)

-- A line that ended and is refused is an error of the answer.
pub answer_fails : (config : Configuration) (asking : SumsAsking) (piece : List ℕ) (used : ℕ) (text : List ℕ) (e : SyncError)
    → EndsLine (piece_run longest_line (kept_part asking.part) piece) used text
    → RefusesLineOfAnswer config asking.answer text e → FailsAnswer config asking piece e
answer_fails config asking piece used text e ends why = record {
  text = text;
  plain = ends.plain;
  rest = 10 ∷ drop used piece;
  bytes = ended_text (kept_part asking.part) piece text used ends.parts;
  cause = elim why [ inl memory ↦ inl memory | inr refused ↦ inr (inr (record { after = drop used piece; feed = refl }, refused)) ];
}

-- A line came.
answer_line : (begun : Bool) (config : Configuration) (old new : AnswerPart) (kept piece text came : List ℕ) (used : ℕ)
    → old.is_begun ≡ begun → kept ++ take used piece ≡ text ++ (10 ∷ []) → TakesAnswerWhere begun config old text new
    → old.marks ≡ None → came ≡ text_of_lines (headed config begun []) ++ kept
    → HasAnswerLines new.marks config new.is_begun [] (came ++ take used piece)
answer_line false config old new kept piece text came used was parts takes none part =
    subst (λ m. HasAnswerLines m config new.is_begun [] (came ++ take used piece)) (sym (takes.same ∙ none))
    (ap (λ (l : List ℕ). l ++ take used piece) part ∙ parts ∙ ap ended takes.is
    ∙ sym (append-nil (ended (written_header config))) ∙ sym (append-nil (ended (written_header config) ++ []))
    ∙ ap (λ (b : Bool). text_of_lines (headed config b []) ++ []) (sym takes.begun))
answer_line true config old new kept piece text came used was parts takes none part =
    subst (λ m. HasAnswerLines m config new.is_begun [] (came ++ take used piece)) (sym takes.now)
    (record {
      all = takes.is.all;
      nothing = refl;
      bytes =
          came_more came (ended (written_header config) ++ []) kept (take used piece) (ended text) part parts
          ∙ ap (λ (l : List ℕ). l ++ ended text) (append-nil (ended (written_header config)))
          ∙ ap (λ (l : List ℕ). ended (written_header config) ++ ended l) takes.is.spelt;
    })

-- A piece was taken, up to the end of a line at most.
pub answer_more : (config : Configuration) (old new : SumsAsking) (piece came : List ℕ) (used : ℕ) → old.answer.marks ≡ None
    → StepsAnswer config old piece used new → came ≡ text_of_lines (headed config old.answer.is_begun []) ++ kept_part old.part
    → HasAnswerLines new.answer.marks config new.answer.is_begun (kept_part new.part) (came ++ take used piece)
answer_more config old new piece came used none steps part =
    elim steps [
      | inl goes ↦
          subst (λ (a : AnswerPart). HasAnswerLines a.marks config a.is_begun (kept_part new.part) (came ++ take used piece)) (sym goes.same)
          (subst (λ m. HasAnswerLines m config old.answer.is_begun (kept_part new.part) (came ++ take used piece)) (sym none)
          (came_more came (text_of_lines (headed config old.answer.is_begun [])) (kept_part old.part) (take used piece) (kept_part new.part) part
          (ap (λ (l : List ℕ). kept_part old.part ++ l) (take_all used piece (let e = goes.all in omega (arith, e))) ∙ sym goes.goes.kept)))
      | inr ends ↦
          subst (λ k. HasAnswerLines new.answer.marks config new.answer.is_begun k (came ++ take used piece)) (sym ends.kept)
          (answer_line old.answer.is_begun config old.answer new.answer (kept_part old.part) piece ends.text came used refl
          ends.ends.parts ends.takes none part)
    ]

-- An error of the piece is one of all that came.
pub answer_stops : (config : Configuration) (old : SumsAsking) (piece came : List ℕ) (e : SyncError) → FailsAnswer config old piece e
    → came ≡ text_of_lines (headed config old.answer.is_begun []) ++ kept_part old.part → StopsAtLine IsLineOfMarks config (came ++ piece) e
answer_stops config old piece came e fails part = record {
  begun = old.answer.is_begun;
  lines = [];
  each = tt;
  text = fails.text;
  plain = fails.plain;
  rest = fails.rest;
  bytes = came_more came (text_of_lines (headed config old.answer.is_begun [])) (kept_part old.part) piece (fails.text ++ fails.rest) part fails.bytes;
  cause = fails.cause;
}
