-- A run over a stream of lines.
use Rattle.std.proofs.Common.{◌≡◌, ℕ, ◌+◌, ◌≤◌, List, [], ◌∷◌, ◌++◌, length, take, inl, inr, Bool, Option, Some, None, ◌⊎◌}
use Rattle.std.proofs.Common.{IfSome, flat_map, refl, sym, ap, ◌∙◌, subst, arith, append_assoc, append-nil}
use Rattle.std.specs.Prelude.{⊤, Ok, Err}
use Rattle.std.specs.List.Sorted.{IsStrictlySortedBy}
use Rattle.std.specs.Io.KnownBytes.{Appends, IsAtEnd, prepend_known}
use Rattle.std.proofs.KnownBytes.{Appends-nil, Appends-trans}
use Rattle.std.proofs.Math.Seq.{take-length, take-append-add}
use Rattle.std.proofs.lemmas.Grind.{flat_map-append}
use Rattle.std.proofs.lemmas.List.{length_push}
use Rattle.fed_config.specs.Configuration.{Configuration, IsConfiguration}
use Rattle.receipt_core.specs.Acceptance.{Meaning, IsFitting}
use Rattle.byte_lines.specs.Device.{AppendsBeginning}
use Rattle.byte_lines.specs.Lines.{Lines, lines_of, with_line, HasLine, HasNoLine, HasMore}
use Rattle.receipt_core.specs.Receipt.{Receipt, with_receipt}
use Rattle.byte_lines.proofs.StreamFacts.{lines_of-line, lines_of-rest}
use Rattle.closure_core.specs.Changes.{HeldAndRoom, TakesOk}
use Rattle.closure_core.specs.declared.outcome.Taken.{Taken}
use Rattle.closure_core.specs.declared.outcome.Taken.TheVariants.{New as TakenNew, Already as TakenAlready}
use Rattle.fedbundle.specs.Stream.{AreTaken, OverfillStore, IsRefusedLine, NumberedError, line_error_text}
use Rattle.command_line.specs.declared.option_texts.OutputForm.{OutputForm}
use Rattle.bundle_view.specs.declared.error.ReportError.{ReportError}
use Rattle.bundle_view.specs.declared.error.ReportError.TheVariants.{Io as SinkFailed, NoMemory as NoMemoryForReport}
use Rattle.fedbundle.specs.CommandRun.{CommandRun, WritesNothing}
use Rattle.command_exits.specs.DeviceRuns.{DeviceRun, HasFailed}
use Rattle.command_exits.specs.Errors.{of_line, of_report}
use Rattle.fedbundle.specs.Report.{PrintsReport, CutsReport, ReportsAll, BeginsReporting, AnswersReport, meaning_of_receipts, WritesReportIn, BeginsReportIn}
use Rattle.fedbundle.specs.Inside.Judging.{TakesReceiptText, IsTextTooMany, HasJudged, TriesText, StopsJudging}
use Rattle.command_exits.specs.declared.run_error.RunError.{RunError}
use Rattle.command_exits.specs.declared.run_error.RunError.TheVariants.{Full, NoMemory, Io}
use Rattle.byte_lines.specs.declared.error.DeviceError.{DeviceError}
use Rattle.byte_lines.specs.declared.error.DeviceError.TheVariants.{Io as SourceFailed, NoMemory as NoMemoryForLine}
use Rattle.fedbundle.specs.declared.line_fault.LineFault.{LineFault}
use Rattle.fedbundle.specs.declared.line_fault.LineFault.TheVariants.{Cut}
use Rattle.fedbundle.proofs.TakenFacts.{untaken, unrefused, taken_none, taken_within, taken_same, taken_more, held_already, one_longer}
use Rattle.fedbundle.proofs.LineErrorFacts.{only, at_number, line_errors_none, line_errors_same, line_errors_more, line_errors_rest, first_all, first_whole}
use Rattle.receipt_core.specs.Limits.{receipt_limit}

-- ---- what is read of a stream

-- these lines were read of the stream `old`, and `left` is what follows
abbrev pub Passed : Option (List ℕ) → Option (List ℕ) → List (List ℕ) → Type 0
Passed None left read = ⊤
Passed (Some xs) None read = ⊥
Passed (Some xs) (Some ys) read = lines_of xs ≡ record { whole = read ++ (lines_of ys).whole; rest = (lines_of ys).rest }

-- before the first line none was read
passed_none : (a : Option (List ℕ)) (kept : List ℕ) → kept ≡ [] → Passed a (prepend_known kept a) []
passed_none None kept none = tt
passed_none (Some xs) kept none = ap (λ k. lines_of (k ++ xs)) (sym none)

-- one more line was read
passed_line : (a b d : Option (List ℕ)) (read : List (List ℕ)) (text : List ℕ) → Passed a b read → HasLine b d text → Passed a d (read ++ text ∷ [])
passed_line None b d read text passed has = tt
passed_line (Some xs) None d read text passed has = absurd passed
passed_line (Some xs) (Some ys) None read text passed has = absurd has.1
passed_line (Some xs) (Some ys) (Some zs) read text passed has =
    let first : lines_of ys ≡ with_line text (lines_of zs) = ap lines_of has.1 ∙ lines_of-line text zs has.0 in
    passed ∙ (λ i. record { whole = read ++ (first i).whole; rest = (first i).rest })
    ∙ (λ i. record { whole = sym (append_assoc read (text ∷ []) (lines_of zs).whole) i; rest = (lines_of zs).rest })

-- ---- line errors that are written

-- one more line error was written, after all before it
stated_more : (a b d : Option (List ℕ)) (xs : List NumberedError) (x : NumberedError) → Appends a b (flat_map line_error_text xs)
    → Appends b d (line_error_text x)
    → Appends a d (flat_map line_error_text (xs ++ x ∷ []))
stated_more a b d xs x before here =
    subst (Appends a d) (sym (flat_map-append line_error_text xs (x ∷ []) ∙ ap (λ t. flat_map line_error_text xs ++ t) (append-nil (line_error_text x))))
    (Appends-trans a b d (flat_map line_error_text xs) (line_error_text x) before here)

-- a beginning of one more line error was written, after all before it
begun_more : (a b d : Option (List ℕ)) (xs : List NumberedError) (x : NumberedError) → Appends a b (flat_map line_error_text xs)
    → AppendsBeginning b d (line_error_text x)
    → AppendsBeginning a d (flat_map line_error_text (xs ++ x ∷ []))
begun_more a b d xs x before (count, here) =
    let texts = flat_map line_error_text xs in
    let text = line_error_text x in
    let whole : flat_map line_error_text (xs ++ x ∷ []) ≡ texts ++ text =
    flat_map-append line_error_text xs (x ∷ []) ∙ ap (λ t. texts ++ t) (append-nil text) in (
      length texts + count,
      subst (Appends a d)
          (sym (ap (take (length texts + count)) whole ∙ take-append-add texts text count))
          (Appends-trans a b d texts (take count text) before here),
    )

-- a whole text is a beginning of it
begun_all : (a b : Option (List ℕ)) (text : List ℕ) → Appends a b text → AppendsBeginning a b text
begun_all a b text all = (length text, subst (Appends a b) (sym (take-length text)) all)

-- ---- so far

-- So far some lines were read, and what is held and written is what comes of them.
pub record SoFar (c : Configuration) (stream left : Option (List ℕ)) (m : Meaning) (stated reports : Option (List ℕ)) (number count : ℕ) : Type 0 where
  pub read : List (List ℕ)
  pub passed : Passed stream left read
  pub numbered : number ≡ length read
  pub judged : HasJudged c (only read) m stated reports count

-- before the first line nothing is taken and no line error is written
pub so_far_none : (c : Configuration) (stream : Option (List ℕ)) (kept : List ℕ) (m : Meaning) (stated : Option (List ℕ))
    → kept ≡ [] → m.config ≡ c → m.held ≡ [] → m.records ≡ []
    → SoFar c stream (prepend_known kept stream) m stated stated 0 0
so_far_none c stream kept m stated empty config held records = record {
  read = [];
  passed = passed_none stream kept empty;
  numbered = refl;
  judged = record {
    config = config;
    records = records;
    taken = subst (AreTaken c []) (sym held) (taken_none c);
    few = let none = ap length held in omega arith;
    line_errors = [];
    all = line_errors_none c;
    stating = Appends-nil stated;
    counted = refl;
  };
}

-- a line whose receipt is taken is not refused, and what is held is what is taken of the lines with
-- that one
taken_on : (c : Configuration) (read : List (List ℕ)) (text : List ℕ) (old new : HeldAndRoom) → IsConfiguration c
    → old.meaning.config ≡ c → AreTaken c read old.meaning.held → length old.meaning.held ≤ receipt_limit c
    → TakesReceiptText old text new
    → (new.meaning.config ≡ old.meaning.config) × (new.meaning.records ≡ old.meaning.records)
    × AreTaken c (read ++ text ∷ []) new.meaning.held × (length new.meaning.held ≤ receipt_limit c)
    × ((why : LineFault) → IsRefusedLine c text why → ⊥)
taken_on c read text old new valid config taken few takes = by_case takes.taken takes.took
  where
    r : Receipt
    r = takes.receipt

    refused_not : IsFitting old.meaning.config r → (why : LineFault) → IsRefusedLine c text why → ⊥
    refused_not fits why refused = unrefused c text r why valid takes.is (subst (λ (d : Configuration). IsFitting d r) config fits) refused

    fits_then : IsFitting old.meaning.config r → AreTaken c (read ++ text ∷ []) (with_receipt r old.meaning.held)
    fits_then fits = taken_more c read text r old.meaning.held taken takes.is (subst (λ (d : Configuration). IsFitting d r) config fits)

    by_case : (t : Taken) → TakesOk old r new t → (new.meaning.config ≡ old.meaning.config)
        × (new.meaning.records ≡ old.meaning.records) × AreTaken c (read ++ text ∷ []) new.meaning.held
        × (length new.meaning.held ≤ receipt_limit c)
        × ((why : LineFault) → IsRefusedLine c text why → ⊥)
    by_case (TakenNew n) took =
        let size = one_longer c read r old.meaning.held taken takes.is.is took.unheld in
        let held : new.meaning.held ≡ with_receipt r old.meaning.held = ap (λ (m : Meaning). m.held) took.meaning in (
          ap (λ (m : Meaning). m.config) took.meaning,
          ap (λ (m : Meaning). m.records) took.meaning,
          subst (AreTaken c (read ++ text ∷ [])) (sym held) (fits_then took.fits),
          (let longer = ap length held ∙ size in let low = took.few in omega (arith, ap receipt_limit config)),
          refused_not took.fits,
        )
    by_case TakenAlready took =
        let fits : IsFitting c r = (taken.sound r took.held).fits in
        let held : new.meaning.held ≡ old.meaning.held = ap (λ (s : HeldAndRoom). s.meaning.held) took.same in (
          ap (λ (s : HeldAndRoom). s.meaning.config) took.same,
          ap (λ (s : HeldAndRoom). s.meaning.records) took.same,
          subst (AreTaken c (read ++ text ∷ [])) (held_already c read r old.meaning.held taken took.held ∙ sym held)
              (taken_more c read text r old.meaning.held taken takes.is fits),
          (let same = ap length held in omega arith),
          λ why refused. unrefused c text r why valid takes.is fits refused,
        )

-- one more line was read, whose receipt was taken
pub so_far_taken : (c : Configuration) (stream left next : Option (List ℕ)) (old new : HeldAndRoom)
    (stated reports now : Option (List ℕ)) (number count : ℕ) (text : List ℕ)
    → IsConfiguration c → SoFar c stream left old.meaning stated reports number count → HasLine left next text → TakesReceiptText old text new → now ≡ reports
    → SoFar c stream next new.meaning stated now (number + 1) count
so_far_taken c stream left next old new stated reports now number count text valid so has takes kept =
    let on = taken_on c so.read text old new valid so.judged.config so.judged.taken so.judged.few takes in
    record {
      read = so.read ++ text ∷ [];
      passed = passed_line stream left next so.read text so.passed has;
      numbered = ap (λ n. n + 1) so.numbered ∙ sym (length_push so.read text);
      judged = record {
        config = on.0 ∙ so.judged.config;
        records = on.1 ∙ so.judged.records;
        taken = on.2;
        few = on.3;
        line_errors = so.judged.line_errors;
        all = line_errors_same c so.read text so.judged.line_errors so.judged.all on.4;
        stating = subst (λ (t : Option (List ℕ)). Appends stated t (flat_map line_error_text so.judged.line_errors)) (sym kept) so.judged.stating;
        counted = so.judged.counted;
      };
    }

-- one more line was read, which is refused, and its line error was written
pub so_far_stated : (c : Configuration) (stream left next : Option (List ℕ)) (old new : Meaning)
    (stated reports now : Option (List ℕ)) (number count : ℕ) (text : List ℕ) (why : LineFault)
    → IsConfiguration c → SoFar c stream left old stated reports number count → HasLine left next text
    → IsRefusedLine c text why → new ≡ old → Appends reports now (line_error_text (at_number (number + 1) why))
    → SoFar c stream next new stated now (number + 1) (count + 1)
so_far_stated c stream left next old new stated reports now number count text why valid so has refused same here =
    let x = at_number (length so.read + 1) why in
    let here_at : Appends reports now (line_error_text x) = subst (λ n. Appends reports now (line_error_text (at_number (n + 1) why))) so.numbered here in
    record {
      read = so.read ++ text ∷ [];
      passed = passed_line stream left next so.read text so.passed has;
      numbered = ap (λ n. n + 1) so.numbered ∙ sym (length_push so.read text);
      judged = record {
        config = ap (λ (m : Meaning). m.config) same ∙ so.judged.config;
        records = ap (λ (m : Meaning). m.records) same ∙ so.judged.records;
        taken = subst (λ (m : Meaning). AreTaken c (so.read ++ text ∷ []) m.held) (sym same)
            (taken_same c so.read text old.held so.judged.taken (untaken c text why valid refused));
        few = subst (λ (m : Meaning). length m.held ≤ receipt_limit c) (sym same) so.judged.few;
        line_errors = so.judged.line_errors ++ x ∷ [];
        all = line_errors_more c so.read text why so.judged.line_errors valid so.judged.all refused;
        stating = stated_more stated reports now so.judged.line_errors x so.judged.stating here_at;
        counted = ap (λ n. n + 1) so.judged.counted ∙ sym (length_push so.judged.line_errors x);
      };
    }

-- ---- the end

-- equal lines are judged alike
judged_at : (c : Configuration) (lines other : Lines) (m : Meaning) (stated reports : Option (List ℕ)) (n : ℕ)
    → other ≡ lines → HasJudged c lines m stated reports n → HasJudged c other m stated reports n
judged_at c lines other m stated reports n e judged = subst (λ (l : Lines). HasJudged c l m stated reports n) (sym e) judged

-- after the last line feed the lines are those that were read, and the rest is what is left
rest_after : (xs ys : List ℕ) (read : List (List ℕ)) → Passed (Some xs) (Some ys) read → HasNoLine (Some ys) → lines_of xs ≡ record { whole = read; rest = ys }
rest_after xs ys read passed none =
    let rest : lines_of ys ≡ record { whole = []; rest = ys } = lines_of-rest ys none in
    passed ∙ (λ i. record { whole = read ++ (rest i).whole; rest = (rest i).rest }) ∙ (λ i. record { whole = append-nil read i; rest = ys })

-- at the end of a stream with a rest, the line error of the rest was written last
pub judged_rest : (c : Configuration) (stream left : Option (List ℕ)) (m : Meaning) (stated reports now : Option (List ℕ))
    (number count : ℕ) → SoFar c stream left m stated reports number count
    → HasNoLine left → HasMore left → Appends reports now (line_error_text (at_number (number + 1) Cut))
    → IfSome stream (λ bytes. HasJudged c (lines_of bytes) m stated now (count + 1))
judged_rest c None left m stated reports now number count so none more here = tt
judged_rest c (Some xs) None m stated reports now number count so none more here = absurd so.passed
judged_rest c (Some xs) (Some ys) m stated reports now number count so none more here =
    let x = at_number (length so.read + 1) Cut in
    let here_at : Appends reports now (line_error_text x) = subst (λ n. Appends reports now (line_error_text (at_number (n + 1) Cut))) so.numbered here in
    judged_at c (record { whole = so.read; rest = ys }) (lines_of xs) m stated now (count + 1) (rest_after xs ys so.read so.passed none) (record {
      config = so.judged.config;
      records = so.judged.records;
      taken = so.judged.taken;
      few = so.judged.few;
      line_errors = so.judged.line_errors ++ x ∷ [];
      all = line_errors_rest c so.read ys so.judged.line_errors so.judged.all more;
      stating = stated_more stated reports now so.judged.line_errors x so.judged.stating here_at;
      counted = ap (λ n. n + 1) so.judged.counted ∙ sym (length_push so.judged.line_errors x);
    })

-- ---- errors

-- the lines that were read are a front of all lines
whole_after : (xs ys : List ℕ) (read : List (List ℕ)) → Passed (Some xs) (Some ys) read → (lines_of xs).whole ≡ read ++ (lines_of ys).whole
whole_after xs ys read passed = ap (λ (l : Lines). l.whole) passed

-- at any time the line errors so far are a beginning of all
pub begun_so_far : (c : Configuration) (stream left : Option (List ℕ)) (m : Meaning) (stated reports now : Option (List ℕ))
    (number count : ℕ) → SoFar c stream left m stated reports number count → now ≡ reports
    → IfSome stream (λ bytes. BeginsReporting c (lines_of bytes) stated now)
begun_so_far c None left m stated reports now number count so kept = tt
begun_so_far c (Some xs) None m stated reports now number count so kept = absurd so.passed
begun_so_far c (Some xs) (Some ys) m stated reports now number count so kept = record {
  line_errors = so.judged.line_errors;
  first = first_whole c so.read (lines_of ys).whole (lines_of xs) so.judged.line_errors (whole_after xs ys so.read so.passed) so.judged.all;
  begun = begun_all stated now _ (subst (λ (t : Option (List ℕ)). Appends stated t (flat_map line_error_text so.judged.line_errors))
      (sym kept) so.judged.stating);
}

-- with a beginning of a refused line's error after those so far, a beginning of all is written
pub begun_line : (c : Configuration) (stream left next : Option (List ℕ)) (m : Meaning)
    (stated reports now : Option (List ℕ)) (number count : ℕ) (text : List ℕ) (why : LineFault)
    → IsConfiguration c → SoFar c stream left m stated reports number count → HasLine left next text → IsRefusedLine c text why
    → AppendsBeginning reports now (line_error_text (at_number (number + 1) why))
    → IfSome stream (λ bytes. BeginsReporting c (lines_of bytes) stated now)
begun_line c None left next m stated reports now number count text why valid so has refused here = tt
begun_line c (Some xs) None next m stated reports now number count text why valid so has refused here = absurd so.passed
begun_line c (Some xs) (Some ys) None m stated reports now number count text why valid so has refused here = absurd has.1
begun_line c (Some xs) (Some ys) (Some zs) m stated reports now number count text why valid so has refused here =
    let x = at_number (length so.read + 1) why in
    let here_at : AppendsBeginning reports now (line_error_text x) =
    subst (λ n. AppendsBeginning reports now (line_error_text (at_number (n + 1) why))) so.numbered here in
    record {
      line_errors = so.judged.line_errors ++ x ∷ [];
      first = first_whole c (so.read ++ text ∷ []) (lines_of zs).whole (lines_of xs) (so.judged.line_errors ++ x ∷ [])
          (whole_after xs zs (so.read ++ text ∷ [])
          (passed_line (Some xs) (Some ys) (Some zs) so.read text so.passed has))
          (line_errors_more c so.read text why so.judged.line_errors valid so.judged.all refused);
      begun = begun_more stated reports now so.judged.line_errors x so.judged.stating here_at;
    }

-- the same for the line error of a rest
pub begun_rest : (c : Configuration) (stream left : Option (List ℕ)) (m : Meaning) (stated reports now : Option (List ℕ))
    (number count : ℕ) → SoFar c stream left m stated reports number count
    → HasNoLine left → HasMore left → AppendsBeginning reports now (line_error_text (at_number (number + 1) Cut))
    → IfSome stream (λ bytes. BeginsReporting c (lines_of bytes) stated now)
begun_rest c None left m stated reports now number count so none more here = tt
begun_rest c (Some xs) None m stated reports now number count so none more here = absurd so.passed
begun_rest c (Some xs) (Some ys) m stated reports now number count so none more here =
    let x = at_number (length so.read + 1) Cut in
    let here_at : AppendsBeginning reports now (line_error_text x) =
    subst (λ n. AppendsBeginning reports now (line_error_text (at_number (n + 1) Cut))) so.numbered here in
    subst (λ (l : Lines). BeginsReporting c l stated now) (sym (rest_after xs ys so.read so.passed none)) (record {
      line_errors = so.judged.line_errors ++ x ∷ [];
      first = first_all c (record { whole = so.read; rest = ys }) (so.judged.line_errors ++ x ∷ [])
          (line_errors_rest c so.read ys so.judged.line_errors so.judged.all more);
      begun = begun_more stated reports now so.judged.line_errors x so.judged.stating here_at;
    })

-- if a receipt is one too many, the lines have more to take than a closure holds
pub too_many : (c : Configuration) (stream left next : Option (List ℕ)) (old : HeldAndRoom) (stated reports : Option (List ℕ)) (number count : ℕ)
    (text : List ℕ)
    → SoFar c stream left old.meaning stated reports number count → HasLine left next text → IsTextTooMany old text
    → IfSome stream (λ bytes. OverfillStore c (lines_of bytes).whole)
too_many c None left next old stated reports number count text so has full = tt
too_many c (Some xs) None next old stated reports number count text so has full = absurd so.passed
too_many c (Some xs) (Some ys) None old stated reports number count text so has full = absurd has.1
too_many c (Some xs) (Some ys) (Some zs) old stated reports number count text so has full =
    let r = full.receipt in
    let fits : IsFitting c r = subst (λ (d : Configuration). IsFitting d r) so.judged.config full.full.fits in
    let taken : AreTaken c (so.read ++ text ∷ []) (with_receipt r old.meaning.held) =
    taken_more c so.read text r old.meaning.held so.judged.taken full.is fits in
    let whole = whole_after xs zs (so.read ++ text ∷ []) (passed_line (Some xs) (Some ys) (Some zs) so.read text so.passed has) in
    record {
      some = with_receipt r old.meaning.held;
      rising = taken.rising;
      each = λ s within. taken_within c (so.read ++ text ∷ []) (lines_of zs).whole (lines_of xs).whole s whole (taken.sound s within);
      many =
          let size = one_longer c so.read r old.meaning.held so.judged.taken full.is.is full.full.unheld in
          let low = full.full.full in
          omega (arith, ap receipt_limit so.judged.config);
    }

-- ---- what comes of a line

-- a line that is refused under the configuration of what is held is refused under the run's
refused_here : (c : Configuration) (stream left : Option (List ℕ)) (old : HeldAndRoom) (stated reports : Option (List ℕ))
    (number count : ℕ) (text : List ℕ) (why : LineFault)
    → SoFar c stream left old.meaning stated reports number count → IsRefusedLine old.meaning.config text why → IsRefusedLine c text why
refused_here c stream left old stated reports number count text why so refused = subst (λ
    (d : Configuration). IsRefusedLine d text why) so.judged.config refused

-- one more line was judged: the step of the loop in `take_lines`
pub so_far_text : (c : Configuration) (stream left next : Option (List ℕ)) (old new : HeldAndRoom)
    (stated reports now : Option (List ℕ)) (number count : ℕ) (text : List ℕ) (failed : Bool) (n : ℕ)
    → IsConfiguration c → SoFar c stream left old.meaning stated reports number count → HasLine left next text
    → TriesText old text (number + 1) new reports now failed (Ok n)
    → SoFar c stream next new.meaning stated now (number + 1) (count + n)
so_far_text c stream left next old new stated reports now number count text failed n valid so has tried = elim tried [
  | inl (takes, kept, none) ↦
      let same : count ≡ count + n = omega arith in
      subst (SoFar c stream next new.meaning stated now (number + 1)) same
      (so_far_taken c stream left next old new stated reports now number count text valid so has takes kept)
  | inr (tellings, one) ↦
      let same : count + 1 ≡ count + n = omega arith in
      subst (SoFar c stream next new.meaning stated now (number + 1)) same
      (so_far_stated c stream left next old.meaning new.meaning stated reports now number count text tellings.why valid so has
      (refused_here c stream left old stated reports number count text tellings.why so tellings.refuses.refused) tellings.refuses.same tellings.now)
]

-- a line has at most one line error, so the count is at most the number of lines
pub at_most_one : (old new : HeldAndRoom) (text : List ℕ) (number : ℕ) (reports now : Option (List ℕ)) (failed : Bool)
    (n : ℕ) → TriesText old text number new reports now failed (Ok n) → n ≤ 1
at_most_one old new text number reports now failed n tried = elim tried [ inl (takes, kept, none) ↦ omega arith | inr (tellings, one) ↦ omega arith ]

-- an error of reading a line stops the judging after a beginning of the line errors
pub stops_line : (c : Configuration) (stream stated reports : Option (List ℕ)) (e : DeviceError)
    → IfSome stream (λ bytes. BeginsReporting c (lines_of bytes) stated reports)
    → IfSome stream (λ bytes. StopsJudging c (lines_of bytes) stated reports (of_line e))
stops_line c None stated reports e begins = tt
stops_line c (Some xs) stated reports SourceFailed begins = begins
stops_line c (Some xs) stated reports NoMemoryForLine begins = begins

-- so does one receipt too many
full_too : (c : Configuration) (stream stated reports : Option (List ℕ))
    → IfSome stream (λ bytes. OverfillStore c (lines_of bytes).whole)
    → IfSome stream (λ bytes. BeginsReporting c (lines_of bytes) stated reports)
    → IfSome stream (λ bytes. StopsJudging c (lines_of bytes) stated reports Full)
full_too c None stated reports many begins = tt
full_too c (Some xs) stated reports many begins = (many, begins)

-- so does an error of a device
pub stops_io : (c : Configuration) (stream stated reports : Option (List ℕ)) → IfSome stream (λ bytes. BeginsReporting c (lines_of bytes) stated reports)
    → IfSome stream (λ bytes. StopsJudging c (lines_of bytes) stated reports Io)
stops_io c None stated reports begins = tt
stops_io c (Some xs) stated reports begins = begins

-- a `RunError` at a line stops the judging after a beginning of the line errors
pub stops_text : (c : Configuration) (stream left next : Option (List ℕ)) (old new : HeldAndRoom)
    (stated reports now : Option (List ℕ)) (number count : ℕ) (text : List ℕ) (failed : Bool) (e : RunError)
    → IsConfiguration c → SoFar c stream left old.meaning stated reports number count → HasLine left next text
    → TriesText old text (number + 1) new reports now failed (Err e) → IfSome stream (λ bytes. StopsJudging c (lines_of bytes) stated now e)
stops_text c stream left next old new stated reports now number count text failed Full valid so has (full, kept) =
    full_too c stream stated now (too_many c stream left next old stated reports number count text so has full)
    (begun_so_far c stream left old.meaning stated reports now number count so kept)
stops_text c None left next old new stated reports now number count text failed NoMemory valid so has kept = tt
stops_text c (Some xs) left next old new stated reports now number count text failed NoMemory valid so has kept =
    begun_so_far c (Some xs) left old.meaning stated reports now number count so kept
stops_text c stream left next old new stated reports now number count text failed Io valid so has (broken, begins) =
    stops_io c stream stated now
    (begun_line c stream left next old.meaning stated reports now number count text begins.why valid so has
    (refused_here c stream left old stated reports number count text begins.why so begins.refused) begins.begun)

-- ---- the whole run

-- nothing written is a beginning of the line errors
pub begun_none : (c : Configuration) (lines : Lines) (stated : Option (List ℕ)) → BeginsReporting c lines stated stated
unfolding IsStrictlySortedBy
begun_none c lines stated = record {
  line_errors = [];
  first = record { rising = tt; sound = λ x has. absurd (omega (arith, has.1)); before = λ x y has is low. absurd (omega (arith, has.1)) };
  begun = (0, Appends-nil stated);
}

-- what holds of all bytes holds also for a source whose bytes may be unknown
pub if_some : (stream : Option (List ℕ)) (P : List ℕ → Type 0) → ((bytes : List ℕ) → P bytes) → IfSome stream P
if_some None P all = tt
if_some (Some xs) P all = all xs

-- a stream at its end has its source there
pub end_of : (kept : List ℕ) (a : Option (List ℕ)) → IsAtEnd (prepend_known kept a) → IsAtEnd a
end_of [] None end = tt
end_of (x ∷ kept) None end = tt
end_of [] (Some xs) end = end
end_of (x ∷ kept) (Some xs) end = absurd (cc)

-- all line errors are a beginning of them
pub begun_judged : (c : Configuration) (lines : Lines) (m : Meaning) (stated reports : Option (List ℕ)) (n : ℕ)
    → HasJudged c lines m stated reports n → BeginsReporting c lines stated reports
begun_judged c lines m stated reports n judged =
    record {
      line_errors = judged.line_errors;
      first = first_all c lines judged.line_errors judged.all;
      begun =
          begun_all stated reports _ judged.stating;
    }

-- a meaning without records is that of its receipts
meaning_is : (c : Configuration) (m : Meaning) → m.config ≡ c → m.records ≡ [] → m ≡ meaning_of_receipts c m.held
meaning_is c m config records = λ i. record { config = config i; held = m.held; records = records i }

-- the same as `begun_judged`, for a source whose bytes may be unknown
pub stated_whole : (c : Configuration) (stream : Option (List ℕ)) (m : Meaning) (stated reports : Option (List ℕ)) (n : ℕ)
    → IfSome stream (λ bytes. HasJudged c (lines_of bytes) m stated reports n)
    → IfSome stream (λ bytes. BeginsReporting c (lines_of bytes) stated reports)
stated_whole c None m stated reports n judged = tt
stated_whole c (Some xs) m stated reports n judged = begun_judged c (lines_of xs) m stated reports n judged

-- If a sink failed at the report of what is held, it holds a beginning of the report of what is
-- taken.
pub cut_off : (form : OutputForm) (sink : DeviceRun) (c : Configuration) (stream : Option (List ℕ)) (m : Meaning) (stated reports : Option (List ℕ))
    (n : ℕ) → IfSome stream (λ bytes. HasJudged c (lines_of bytes) m stated reports n)
    → BeginsReportIn form m sink.before sink.after → IfSome stream (λ bytes. CutsReport form sink c (lines_of bytes))
cut_off form sink c None m stated reports n judged begins = tt
cut_off form sink c (Some xs) m stated reports n judged begins = record {
  receipts = m.held;
  taken = judged.taken;
  begun = subst (λ (z : Meaning). BeginsReportIn form z sink.before sink.after) (meaning_is c m judged.config judged.records) begins;
}

-- the report of what is held is that of the receipts taken, and all line errors are written
pub reported : (form : OutputForm) (sink line_errors : DeviceRun) (c : Configuration) (stream : Option (List ℕ)) (m : Meaning)
    (n : ℕ) → IfSome stream (λ bytes. HasJudged c (lines_of bytes) m line_errors.before line_errors.after n)
    → WritesReportIn form m sink.before sink.after
    → IfSome stream (λ bytes. PrintsReport form sink c (lines_of bytes) × ReportsAll line_errors c (lines_of bytes) n)
reported form sink line_errors c None m n judged writes = tt
reported form sink line_errors c (Some xs) m n judged writes = (
  record {
    receipts = m.held;
    taken = judged.taken;
    few = judged.few;
    report = subst (λ (z : Meaning). WritesReportIn form z sink.before sink.after) (meaning_is c m judged.config judged.records) writes;
  },
  record { list = judged.line_errors; all = judged.all; stating = judged.stating; counted = judged.counted },
)

-- ---- why a run stops

-- what follows from a fact about a stream's bytes, if they are known
if_some_then : (stream : Option (List ℕ)) (P Q : List ℕ → Type 0) → ((bytes : List ℕ) → P bytes → Q bytes) → IfSome stream P → IfSome stream Q
if_some_then None P Q then holds = tt
if_some_then (Some xs) P Q then holds = then xs holds

-- Memory ran out before a line was read.
pub stopped_early : (form : OutputForm) (run : CommandRun) (line_errors : DeviceRun) (c : Configuration)
    → WritesNothing run.sink → line_errors.after ≡ line_errors.before → AnswersReport form run line_errors c (Err NoMemory)
stopped_early form run line_errors c same unprinted = (
  same,
  if_some run.source.before _
      (λ bytes. subst (λ (reports : Option (List ℕ)). BeginsReporting c (lines_of bytes) line_errors.before reports) (sym unprinted)
      (begun_none c (lines_of bytes) line_errors.before)),
)

-- The lines were not all taken, so nothing of the report was written.
pub stopped_judging : (form : OutputForm) (run : CommandRun) (line_errors : DeviceRun) (c : Configuration) (e : RunError)
    → WritesNothing run.sink → (e ≡ Io → HasFailed run.source ⊎ HasFailed line_errors)
    → IfSome run.source.before (λ bytes. StopsJudging c (lines_of bytes) line_errors.before line_errors.after e)
    → AnswersReport form run line_errors c (Err e)
stopped_judging form run line_errors c Full same failed stops =
    ((same, if_some_then run.source.before _ _ (λ bytes both. both.0) stops), if_some_then run.source.before _ _ (λ bytes both. both.1) stops)
stopped_judging form run line_errors c NoMemory same failed stops = (same, stops)
stopped_judging form run line_errors c Io same failed stops = (inl (failed refl, same), stops)

-- The lines were taken, and the report was not written.
pub stopped_writing : (form : OutputForm) (run : CommandRun) (line_errors : DeviceRun) (c : Configuration) (m : Meaning) (n : ℕ) (e : ReportError)
    → IfSome run.source.before (λ bytes. HasJudged c (lines_of bytes) m line_errors.before line_errors.after n)
    → (e ≡ NoMemoryForReport → WritesNothing run.sink)
    → (e ≡ SinkFailed → HasFailed run.sink × BeginsReportIn form m run.sink.before run.sink.after)
    → AnswersReport form run line_errors c (Err (of_report e))
stopped_writing form run line_errors c m n SinkFailed judged same failed =
    let fault = failed refl in (
      inr (fault.0, cut_off form run.sink c run.source.before m line_errors.before line_errors.after n judged fault.1),
      stated_whole c run.source.before m line_errors.before line_errors.after n judged,
    )
stopped_writing form run line_errors c m n NoMemoryForReport judged same failed =
    (same refl, stated_whole c run.source.before m line_errors.before line_errors.after n judged)
