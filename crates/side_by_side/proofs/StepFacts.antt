-- One line, found, offered and counted, and the loop over all lines.
use Rattle.std.proofs.Common.{◌≡◌, ℕ, ◌+◌, ◌≤◌, List, [], ◌∷◌, ◌++◌, length, refl, sym, ap, ◌∙◌, subst, arith}
use Rattle.std.proofs.Common.{append_assoc, append-nil, length-append, Option, Result, Ok, Err}
use Rattle.std.specs.Prelude.{Contains, MatchResult, OnErr, ok_or}
use Rattle.std.proofs.lemmas.List.Sums.{fold-append}
use Rattle.std.proofs.lemmas.List.Elements.{Contains-append_left}
use Rattle.fed_config.specs.Configuration.{IsConfiguration}
use Rattle.byte_lines.specs.Lines.{HasNoFeed, Lines, lines_of}
use Rattle.byte_lines.proofs.StreamFacts.{lines_of-line, lines_of-rest}
use Rattle.receipt_core.specs.declared.distrust.Distrust.{Distrust}
use Rattle.receipt_core.specs.Receipt.{Receipt}
use Rattle.receipt_core.specs.Acceptance.{Meaning, IsMeaning}
use Rattle.closure_core.specs.Changes.{HeldAndRoom, HasReceiptAlready, HasRecordAlready}
use Rattle.closure_core.specs.Refusals.{RefusesReceipt, Room}
use Rattle.closure_core.specs.declared.error.TakeError.{TakeError}
use Rattle.closure_core.specs.declared.error.TakeError.TheVariants.{UnknownDomain, WrongEndpoint, BelowFloor, Full, NoMemory, ConfigDiffers}
use Rattle.closure_core.proofs.FitFacts.{fits_known, fits_right, fits_above}
use Rattle.replica_core.specs.declared.entry.Entry.{Entry}
use Rattle.replica_core.specs.declared.entry.Entry.TheVariants.{Record, Receipt as AReceipt}
use Rattle.replica_texts.specs.declared.entry_line.Wanted.TheVariants.{Either}
use Rattle.replica_texts.specs.Entries.{IsEntry}
use Rattle.replica_texts.specs.Snapshots.{ended}
use Rattle.side_by_side.specs.declared.fate.Fate.{Fate}
use Rattle.side_by_side.specs.declared.fate.Fate.TheVariants.{Taken, Held, Unfit, NoPlace, Unread}
use Rattle.side_by_side.specs.declared.offer_counts.Offered.{Offered}
use Rattle.side_by_side.specs.Offering.{HasOffered, HasOfferedPart, Kept, OffersEntry, OffersInTurn}
use Rattle.side_by_side.specs.Offering.{OffersLine, TakesAs, counted_fate, counted_all, none_offered}
use Rattle.side_by_side.specs.Promise.{AddsOnlyFitting, LinesSay, TakesFitting}
use Rattle.side_by_side.specs.Inside.Steps.{IsFirstLine, fate_when, offered_count}
use Rattle.side_by_side.proofs.EntryFacts.{SetLaws}
use Rattle.side_by_side.proofs.OfferFacts.{adds_in_turn, only_first, takes_fitting}

-- ---- the first line

-- The whole lines of the bytes are the first one, and then those of what follows it.
first_whole : (bytes text after : List ℕ) → IsFirstLine bytes text after → (lines_of bytes).whole ≡ text ∷ (lines_of after).whole
first_whole bytes text after first =
    ap (λ (b : List ℕ). (lines_of b).whole) first.parts ∙ ap (λ (l : Lines). l.whole) (lines_of-line text after first.plain)

-- What follows the first line is shorter.
pub first_shorter : (bytes text after : List ℕ) → IsFirstLine bytes text after → length after + 1 ≤ length bytes
first_shorter bytes text after first =
    let whole = ap length first.parts ∙ length-append (ended text) after in
    let line = length-append text (10 ∷ []) in
    omega (arith, whole, line)

-- ---- one receipt or one record

pub receipt_held : (old new : HeldAndRoom) (r : Receipt) → HasReceiptAlready old r new → TakesAs old.meaning (AReceipt r) new.meaning Held
receipt_held old new r h = (ap (λ (s : HeldAndRoom). s.meaning) h.same, h.held)

pub record_held : (old new : Meaning) (x : Distrust) → HasRecordAlready old x new → TakesAs old (Record x) new Held
record_held old new x h = (h.meaning, h.held)

-- What is refused does not fit, has no place, or memory ran out; nothing changes.
pub receipt_refused : {E : Type 0} (m n : Meaning) (room : Room) (r : Receipt) (why : TakeError) (e : E) → IsConfiguration m.config
    → RefusesReceipt m room r why → n ≡ m → MatchResult (ok_or (fate_when why) e) (TakesAs m (AReceipt r) n) (λ e. n ≡ m)
receipt_refused m n room r UnknownDomain e is h same = (same, λ fits. fits_known m.config r fits h)
receipt_refused m n room r WrongEndpoint e is h same = (same, λ fits. fits_right m.config r is fits h)
receipt_refused m n room r BelowFloor e is h same = (same, λ fits. fits_above m.config r fits h)
receipt_refused m n room r Full e is h same = (same, record { fits = h.fits; unheld = h.unheld; full = h.full })
receipt_refused m n room r NoMemory e is h same = same
receipt_refused m n room r ConfigDiffers e is h same = same

-- The same, of the result that the code makes of the cause.
pub receipt_result : {E : Type 0} (m n : Meaning) (room : Room) (r : Receipt) (why : TakeError) (e : E) (fate : Option Fate) (result : Result Fate E)
    → IsConfiguration m.config → RefusesReceipt m room r why → n ≡ m → fate ≡ fate_when why → result ≡ ok_or fate e
    → MatchResult result (TakesAs m (AReceipt r) n) (λ e. n ≡ m)
receipt_result m n room r why e fate result is h same came made =
    subst (λ (o : Result Fate _). MatchResult o (TakesAs m (AReceipt r) n) (λ e. n ≡ m)) (sym (made ∙ ap (λ (f : Option Fate). ok_or f e) came))
    (receipt_refused m n room r why e is h same)

-- ---- its line in the journal

-- What comes of a receipt or a record comes of the line that says it.
pub said_line : (old : Kept) (text : List ℕ) (entry : Entry) (new : Kept) (fate : Fate) → IsEntry Either text entry → OffersEntry old entry new fate
    → OffersLine old text new fate
said_line old text entry new Taken is h = record { entry = entry; is = is; offers = h }
said_line old text entry new Held is h = record { entry = entry; is = is; offers = h }
said_line old text entry new Unfit is h = record { entry = entry; is = is; offers = h }
said_line old text entry new NoPlace is h = record { entry = entry; is = is; offers = h }
said_line old text entry new Unread is h = absurd h.takes

-- ---- all lines

-- One line more was offered.
pub turn_more : (old : Kept) (texts : List (List ℕ)) (now : Kept) (fates : List Fate) (text : List ℕ) (new : Kept) (fate : Fate)
    → OffersInTurn old texts now fates → OffersLine now text new fate → OffersInTurn old (texts ++ text ∷ []) new (fates ++ fate ∷ [])
turn_more old [] now [] text new fate h line = (new, subst (λ (k : Kept). OffersLine k text new fate) h line, refl)
turn_more old [] now (f ∷ fates) text new fate h line = absurd h
turn_more old (t ∷ texts) now [] text new fate h line = absurd h
turn_more old (t ∷ texts) now (f ∷ fates) text new fate h line =
    (h.0, h.1, turn_more h.0 texts now fates text new fate h.2 line)

-- These lines were offered, and the others are left.
pub record HasOfferedSome (old : Kept) (bytes : List ℕ) (now : Kept) (rest : List ℕ) (offered : Offered) : Type 0 where
  pub done : List (List ℕ)
  pub fates : List Fate
  pub lines : (lines_of bytes).whole ≡ done ++ (lines_of rest).whole
  pub each : OffersInTurn old done now fates
  pub counts : offered ≡ counted_all fates none_offered

-- Before the first line.
pub some_none : (old : Kept) (bytes : List ℕ) → HasOfferedSome old bytes old bytes none_offered
some_none old bytes = record { done = []; fates = []; lines = refl; each = refl; counts = refl }

-- One line more.
pub some_more : (old : Kept) (bytes : List ℕ) (now : Kept) (rest : List ℕ) (offered : Offered) (text after : List ℕ) (new : Kept) (fate : Fate) (more : Offered)
    → HasOfferedSome old bytes now rest offered → IsFirstLine rest text after → OffersLine now text new fate → more ≡ counted_fate fate offered
    → HasOfferedSome old bytes new after more
some_more old bytes now rest offered text after new fate more h first line count = record {
  done = h.done ++ text ∷ [];
  fates = h.fates ++ fate ∷ [];
  lines = h.lines ∙ ap (λ (ls : List (List ℕ)). h.done ++ ls) (first_whole rest text after first)
      ∙ sym (append_assoc h.done (text ∷ []) (lines_of after).whole);
  each = turn_more old h.done now h.fates text new fate h.each line;
  counts = count ∙ ap (counted_fate fate) h.counts
      ∙ sym (fold-append (λ (o : Offered) (f : Fate). counted_fate f o) none_offered h.fates (fate ∷ []));
}

-- One more is counted.
pub counted_one : (fate : Fate) (o : Offered) → offered_count (counted_fate fate o) ≡ offered_count o + 1
counted_one Taken o = omega arith
counted_one Held o = omega arith
counted_one Unfit o = omega arith
counted_one NoPlace o = omega arith
counted_one Unread o = omega arith

-- All were offered if no line is left.
pub some_all : (old : Kept) (bytes : List ℕ) (now : Kept) (rest : List ℕ) (offered : Offered) → HasOfferedSome old bytes now rest offered → HasNoFeed rest
    → HasOffered old (lines_of bytes).whole now offered
some_all old bytes now rest offered h none =
    let all : (lines_of bytes).whole ≡ h.done = h.lines ∙ ap (λ (l : Lines). h.done ++ l.whole) (lines_of-rest rest none) ∙ append-nil h.done in
    record { fates = h.fates; each = subst (λ (ls : List (List ℕ)). OffersInTurn old ls now h.fates) (sym all) h.each; counts = h.counts }

-- A line is left.
pub some_part : (old : Kept) (bytes : List ℕ) (now new : Kept) (rest : List ℕ) (offered : Offered) (text after : List ℕ)
    → HasOfferedSome old bytes now rest offered
    → IsFirstLine rest text after → new ≡ now → HasOfferedPart old (lines_of bytes).whole new
some_part old bytes now new rest offered text after h first same = record {
  done = h.done;
  next = text;
  later = (lines_of after).whole;
  fates = h.fates;
  lines = h.lines ∙ ap (λ (ls : List (List ℕ)). h.done ++ ls) (first_whole rest text after first);
  each = subst (λ (k : Kept). OffersInTurn old h.done k h.fates) (sym same) h.each;
}

-- What holds anyway holds of an error.
pub on_err : {T E : Type 0} (r : Result T E) (P : Type 0) → P → OnErr r P
on_err (Ok value) P h = tt
on_err (Err e) P h = h

-- What some of the lines added.
pub part_adds : SetLaws → (old : Kept) (texts : List (List ℕ)) (new : Kept) → IsMeaning old.meaning → HasOfferedPart old texts new
    → AddsOnlyFitting old.meaning (LinesSay texts) new.meaning
part_adds laws old texts new is h =
    only_first old.meaning new.meaning h.done texts
    (λ t has. subst (λ (ls : List (List ℕ)). Contains ls t) (sym h.lines) (Contains-append_left h.done (h.next ∷ h.later) t has))
    (adds_in_turn laws old h.done new h.fates is.receipts h.each).only

-- What all of them added.
pub all_adds : SetLaws → (old : Kept) (texts : List (List ℕ)) (new : Kept) (offered : Offered) → IsMeaning old.meaning → HasOffered old texts new offered
    → AddsOnlyFitting old.meaning (LinesSay texts) new.meaning
all_adds laws old texts new offered is h = (adds_in_turn laws old texts new h.fates is.receipts h.each).only

pub all_takes : SetLaws → (old : Kept) (texts : List (List ℕ)) (new : Kept) (offered : Offered) → IsMeaning old.meaning → HasOffered old texts new offered
    → TakesFitting old.meaning (LinesSay texts) new.meaning
all_takes laws old texts new offered is h =
    takes_fitting old.meaning new.meaning (LinesSay texts) h.fates (adds_in_turn laws old texts new h.fates is.receipts h.each)
