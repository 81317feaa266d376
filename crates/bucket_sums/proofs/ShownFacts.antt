-- What a session brings whose records come once.
use Rattle.std.proofs.Common.{◌≡◌, ◌∙◌, ℕ, ◌+◌, ◌==◌, ◌||◌, ◌⊎◌, inl, inr, Bool, true, false, List, [], ◌∷◌, ◌++◌, length, map, drop}
use Rattle.std.proofs.Common.{refl, sym, ap, subst, arith}
use Rattle.std.specs.Prelude.{fold, ⊤, Some}
use Rattle.std.specs.List.{AllByRecursion}
use Rattle.std.specs.List.Sorted.{IsStrictlySortedBy}
use Rattle.std.proofs.lemmas.List.{drop_all}
use Rattle.fed_config.specs.Configuration.{Configuration}
use Rattle.byte_lines.specs.Lines.{Lines, lines_of, with_byte}
use Rattle.byte_lines.specs.Lines.{before as byte_first}
use Rattle.receipt_core.specs.Acceptance.{IsMeaning, Meaning}
use Rattle.receipt_core.specs.Order.{distrust_total}
use Rattle.receipt_core.specs.Receipt.{IsDistrust, distrust_cmp}
use Rattle.receipt_core.specs.Rising.{with_items}
use Rattle.receipt_core.specs.declared.distrust.Distrust.{Distrust}
use Rattle.receipt_core.proofs.RisingFacts.{Has, same_members, with_items-has, with_items-keeps, with_items-new, with_items-rising}
use Rattle.replica_core.specs.Session.{GiveMessage, HaveMessage, give_of}
use Rattle.replica_core.specs.State.{State, joined}
use Rattle.replica_core.proofs.RisingListFacts.{all_append}
use Rattle.replica_texts.specs.Gives.{IsGive}
use Rattle.replica_texts.specs.Haves.{IsHaveOf}
use Rattle.replica_sync.specs.Plans.{bucket_at}
use Rattle.replica_sync.specs.PulledPieces.{haves_planned}
use Rattle.replica_sync.specs.Pulling.{after_gives, have_in}
use Rattle.replica_sync.specs.ServedPieces.{Came, CameLines, HaveAndHeld, HeldLine, IsOwnHave, IsStill, bytes_came, line_of_have, lines_with, with_held}
use Rattle.replica_sync.specs.AnsweredFrom.{answered_from}
use Rattle.replica_sync.specs.declared.answer_records.AnswerRecords.{AnswerRecords}
use Rattle.replica_sync.specs.declared.answer_records.AnswerRecords.TheVariants.{All, LeftOut}
use Rattle.replica_sync.proofs.OwnMessageFacts.{answer-given}
use Rattle.replica_sync.proofs.PlanLawFacts.{gives_each}
use Rattle.replica_sync.proofs.ServeLawFacts.{haves_in}
use Rattle.bucket_sums.specs.RecordsOnce.{has_feed, records_due, shown_once}
use Rattle.bucket_sums.specs.Sessions.{after_answer, after_answers}
use Rattle.bucket_sums.proofs.QuietLawFacts.{left_items}
use Rattle.bucket_sums.proofs.SessionFacts.{IsFormed, exact-records, formed-answer}

-- The pieces have the same bytes.
pub shown_bytes : (differ : Bool) (old : List ℕ) (came : List Came) → bytes_came (shown_once differ old came) ≡ bytes_came came
shown_bytes differ old [] = refl
shown_bytes differ old (c ∷ came) = ap (λ (l : List ℕ). c.bytes ++ l) (shown_bytes differ (old ++ c.bytes) came)

-- ---- what each have is answered with

-- all that is held, or all but the records
abbrev pub IsShown : Meaning → Meaning → Type 0
IsShown k held = (held ≡ k) ⊎ (held ≡ answered_from LeftOut k)

abbrev pub AreShown : Meaning → List HaveAndHeld → Type 0
AreShown k asked = AllByRecursion (λ (a : HaveAndHeld). IsShown k a.held) asked

-- The first have is answered from what is so.
abbrev pub IsFirstOf : (Meaning → Type 0) → List HaveAndHeld → Type 0
IsFirstOf P [] = ⊤
IsFirstOf P (a ∷ asked) = P a.held

-- It is answered with all.
abbrev pub IsFirst : Meaning → List HaveAndHeld → Type 0
IsFirst k = IsFirstOf (λ held. held ≡ k)

abbrev IsFirstLine : (Meaning → Type 0) → List HeldLine → Type 0
IsFirstLine P [] = ⊤
IsFirstLine P (l ∷ lines) = P l.held

-- what is so of a piece, whichever records the answer has that it ends
abbrev pub IsShownAs : (Meaning → Type 0) → Came → Type 0
IsShownAs Q c = (records : AnswerRecords) → Q (answered_from records c.held)

one_shown : (records : AnswerRecords) (k held : Meaning) → held ≡ k → IsShown k (answered_from records held)
one_shown All k held is = inl is
one_shown LeftOut k held is = inr (ap (answered_from LeftOut) is)

came_still : (k : Meaning) (came : List Came) → IsStill k came → AllByRecursion (IsShownAs (IsShown k)) came
came_still k [] still = tt
came_still k (c ∷ came) still = (λ records. one_shown records k c.held still.0, came_still k came still.1)

lines_each : (Q : Meaning → Type 0) (held : Meaning) (whole : List (List ℕ)) → Q held → AllByRecursion (λ (l : HeldLine). Q l.held) (map (with_held held) whole)
lines_each Q held [] is = tt
lines_each Q held (text ∷ whole) is = (is, lines_each Q held whole is)

came_each : (Q : Meaning → Type 0) (differ : Bool) (old : List ℕ) (lines : CameLines) (came : List Came)
    → AllByRecursion (λ (l : HeldLine). Q l.held) lines.lines → AllByRecursion (IsShownAs Q) came
    → AllByRecursion (λ (l : HeldLine). Q l.held) (fold lines_with lines (shown_once differ old came)).lines
came_each Q differ old lines [] h each = h
came_each Q differ old lines (c ∷ came) h each =
    let held = answered_from (records_due differ (has_feed old)) c.held in
    let whole = (lines_of (lines.rest ++ c.bytes)).whole in
    came_each Q differ (old ++ c.bytes) (lines_with lines (record { bytes = c.bytes; held = held })) came
    (all_append (λ (l : HeldLine). Q l.held) lines.lines (map (with_held held) whole) h
    (lines_each Q held whole (each.0 (records_due differ (has_feed old))))) each.1

asked_each : (Q : Meaning → Type 0) (asked : List HaveAndHeld) → AllByRecursion (λ (l : HeldLine). Q l.held) (map line_of_have asked)
    → AllByRecursion (λ (a : HaveAndHeld). Q a.held) asked
asked_each Q [] h = tt
asked_each Q (a ∷ asked) h = (h.0, asked_each Q asked h.1)

-- ---- the first line

-- A line that came first remains the first.
first_kept : (P : Meaning → Type 0) (l : HeldLine) (lines : List HeldLine) (rest : List ℕ) (came : List Came) → P l.held
    → IsFirstLine P (fold lines_with (record { lines = l ∷ lines; rest = rest }) came).lines
first_kept P l lines rest [] is = is
first_kept P l lines rest (c ∷ came) is =
    let more = lines_of (rest ++ c.bytes) in
    first_kept P l (lines ++ map (with_held c.held) more.whole) more.rest came is

first_from : (P : Meaning → Type 0) (held : Meaning) (whole : List (List ℕ)) (rest : List ℕ) (came : List Came) → P held
    → (whole ≡ [] → IsFirstLine P (fold lines_with (record { lines = []; rest = rest }) came).lines)
    → IsFirstLine P (fold lines_with (record { lines = map (with_held held) whole; rest = rest }) came).lines
first_from P held [] rest came is none = none refl
first_from P held (text ∷ whole) rest came is none = first_kept P (with_held held text) (map (with_held held) whole) rest came is

-- what is so of bytes in which no line ended
abbrev HasNone : Lines → List ℕ → Type 0
HasNone lines bytes = (lines.rest ≡ bytes) × (has_feed bytes ≡ false)

none_before : (b : ℕ) (whole : List (List ℕ)) (rest bytes : List ℕ) → (b == 10) ≡ false
    → (whole ≡ [] → (rest ≡ bytes) × (has_feed bytes ≡ false)) → (byte_first b whole rest).whole ≡ [] → HasNone (byte_first b whole rest) (b ∷ bytes)
none_before b [] rest bytes is on none =
    let both = on refl in (ap (λ (l : List ℕ). b ∷ l) both.0, ap (λ (f : Bool). f || has_feed bytes) is ∙ both.1)
none_before b (text ∷ whole) rest bytes is on none = absurd (cc)

none_with : (feed : Bool) (b : ℕ) (lines : Lines) (bytes : List ℕ) → (b == 10) ≡ feed → (lines.whole ≡ [] → HasNone lines bytes)
    → (with_byte feed b lines).whole ≡ [] → HasNone (with_byte feed b lines) (b ∷ bytes)
none_with true b lines bytes is on none = absurd (cc)
none_with false b lines bytes is on none = none_before b lines.whole lines.rest bytes is on none

no_lines : (bytes : List ℕ) → (lines_of bytes).whole ≡ [] → HasNone (lines_of bytes) bytes
no_lines [] none = (refl, refl)
no_lines (b ∷ bytes) none = none_with (b == 10) b (lines_of bytes) bytes refl (no_lines bytes) none

-- If the records differ, the first line that ends has all that is held.
first_shown : (P : Meaning → Type 0) (old : List ℕ) (came : List Came) → AllByRecursion (λ (c : Came). P c.held) came → has_feed old ≡ false
    → IsFirstLine P (fold lines_with (record { lines = []; rest = old }) (shown_once true old came)).lines
first_shown P old [] each none = tt
first_shown P old (c ∷ came) each none =
    let held = answered_from (records_due true (has_feed old)) c.held in
    let more = lines_of (old ++ c.bytes) in
    let seen = shown_once true (old ++ c.bytes) came in
    first_from P held more.whole more.rest seen
    (subst P (sym (ap (λ (b : Bool). answered_from (records_due true b) c.held) none)) each.0)
    (λ ended. let both = no_lines (old ++ c.bytes) ended in
    subst (λ (rest : List ℕ). IsFirstLine P (fold lines_with (record { lines = []; rest = rest }) seen).lines) (sym both.0)
    (first_shown P (old ++ c.bytes) came each.1 both.1))

first_asked : (P : Meaning → Type 0) (asked : List HaveAndHeld) → IsFirstLine P (map line_of_have asked) → IsFirstOf P asked
first_asked P [] h = tt
first_asked P (a ∷ asked) h = h

-- What each have of the session is answered from, and what the first one is if the records differ.
pub record Shows (Q P : Meaning → Type 0) (differ : Bool) (asked : List HaveAndHeld) : Type 0 where
  pub each : AllByRecursion (λ (a : HaveAndHeld). Q a.held) asked
  pub first : differ ≡ true → IsFirstOf P asked

pub shows : (Q P : Meaning → Type 0) (differ : Bool) (later : List Came) (asked : List HaveAndHeld) → AllByRecursion (IsShownAs Q) later
    → AllByRecursion (λ (c : Came). P c.held) later
    → (fold lines_with (record { lines = []; rest = [] }) (shown_once differ [] later)).lines ≡ map line_of_have asked → Shows Q P differ asked
shows Q P differ later asked each all lines = record {
  each = asked_each Q asked
      (subst (AllByRecursion (λ (l : HeldLine). Q l.held)) lines (came_each Q differ [] (record { lines = []; rest = [] }) later tt each));
  first = λ set. first_asked P asked
      (subst (IsFirstLine P)
      (ap (λ (b : Bool). (fold lines_with (record { lines = []; rest = [] }) (shown_once b [] later)).lines) (sym set) ∙ lines)
      (first_shown P [] later all refl));
}

-- If the same is held while they come, they are answered with all of it, or all but the records.
pub shows_once : (k : Meaning) (differ : Bool) (later : List Came) (asked : List HaveAndHeld) → IsStill k later
    → (fold lines_with (record { lines = []; rest = [] }) (shown_once differ [] later)).lines ≡ map line_of_have asked
    → Shows (IsShown k) (λ held. held ≡ k) differ asked
shows_once k differ later asked still lines = shows (IsShown k) (λ held. held ≡ k) differ later asked (came_still k later still) still lines

-- ---- haves and answers of this form

pub own_haves : (k : Meaning) (asked : List HaveAndHeld) → AreShown k asked → AllByRecursion IsOwnHave asked
    → AllByRecursion (IsHaveOf k.config) (haves_in asked)
own_haves k [] each own = tt
own_haves k (a ∷ asked) each own =
    let config : a.held.config ≡ k.config =
    elim each.0 [ inl is ↦ ap (λ (m : Meaning). m.config) is | inr is ↦ ap (λ (m : Meaning). m.config) is ] in
    (subst (λ (d : Configuration). IsHaveOf d a.have) config own.0, own_haves k asked each.1 own.1)

-- Without its records, a meaning is one.
bare : (k : Meaning) → IsMeaning k → IsMeaning (answered_from LeftOut k)
unfolding IsStrictlySortedBy
bare k valid = record {
  receipts = valid.receipts;
  rising = valid.rising;
  fitting = valid.fitting;
  few = valid.few;
  distrusts = tt;
  records_rising = tt;
  domains = tt;
  few_records = omega arith;
}

pub shown_means : (records : AnswerRecords) (k : Meaning) → IsMeaning k → IsMeaning (answered_from records k)
shown_means All k valid = valid
shown_means LeftOut k valid = bare k valid

pub shown_forms : (k : Meaning) (asked : List HaveAndHeld) → IsMeaning k → AreShown k asked → AllByRecursion IsOwnHave asked
    → AllByRecursion IsGive (gives_each asked)
shown_forms k [] valid each own = tt
shown_forms k (a ∷ asked) valid each own =
    let meaning : IsMeaning a.held =
    elim each.0 [ inl is ↦ subst IsMeaning (sym is) valid | inr is ↦ subst IsMeaning (sym is) (bare k valid) ] in
    (answer-given a.held a.have meaning own.0.askable, shown_forms k asked valid each.1 own.1)

-- ---- what is held after the answers

-- all records of the other are held
abbrev pub HasRecords : Meaning → State → Type 0
HasRecords k state = (x : Distrust) → Has k.records x → Has state.records x

-- Items that are there already change nothing.
already : (items set : List Distrust) → IsStrictlySortedBy distrust_cmp set → ((x : Distrust) → Has items x → Has set x)
    → with_items distrust_cmp items set ≡ set
already items set rising has =
    same_members distrust_cmp distrust_total (with_items distrust_cmp items set) set (with_items-rising distrust_cmp distrust_total items set rising) rising
    (λ x h. elim (with_items-has distrust_cmp items set x h) [ inl new ↦ has x new | inr old ↦ old ])
    (λ x h. with_items-keeps distrust_cmp items set x h)

-- If all records of the other are held, an answer without them brings the same as one with them.
bare_brings : (k : Meaning) (q : HaveMessage) (state : State) → IsFormed state → HasRecords k state
    → joined state (give_of (answered_from LeftOut k) q).content ≡ joined state (give_of k q).content
bare_brings k q state own has =
    ap (λ (records : List Distrust). record { held = (joined state (give_of k q).content).held; records = records })
    (sym (already k.records state.records own.records_rising has))

one_brings : (k held : Meaning) (q : HaveMessage) (state : State) → IsFormed state → IsShown k held → HasRecords k state ⊎ (held ≡ k)
    → joined state (give_of held q).content ≡ joined state (give_of k q).content
one_brings k held q state own is (inr whole) = ap (λ (m : Meaning). joined state (give_of m q).content) whole
one_brings k held q state own (inl whole) (inl has) = ap (λ (m : Meaning). joined state (give_of m q).content) whole
one_brings k held q state own (inr bare_is) (inl has) =
    ap (λ (m : Meaning). joined state (give_of m q).content) bare_is ∙ bare_brings k q state own has

-- After answers of which the first has the records if they are not held, what is held is what answers with all records bring.
pub after_shown : (c : Configuration) (k : Meaning) (bs : List ℕ) (place : ℕ) (state : State) (gives : List GiveMessage) (asked : List HaveAndHeld)
    → IsMeaning k → IsFormed state → AreShown k asked → HasRecords k state ⊎ IsFirst k asked
    → haves_planned (Some bs) c place state gives ≡ haves_in asked → gives ≡ gives_each asked → place + length gives ≡ length bs
    → after_gives state gives ≡ after_answers k state (drop place bs)
after_shown c k bs place state [] asked valid own each has haves e few = sym (ap (after_answers k state) (drop_all place bs (omega (arith, few))))
after_shown c k bs place state (r ∷ gives) [] valid own each has haves e few = absurd (cc)
after_shown c k bs place state (r ∷ gives) (a ∷ asked) valid own each has haves e few =
    let b = bucket_at (Some bs) place in
    let have : have_in c state b ≡ a.have = cc in
    let later : haves_planned (Some bs) c (place + 1) (joined state r.content) gives ≡ haves_in asked = cc in
    let head : r ≡ give_of a.held a.have = cc in
    let tail : gives ≡ gives_each asked = cc in
    let one : joined state r.content ≡ after_answer k state b =
    ap (λ (g : GiveMessage). joined state g.content) head
    ∙ ap (λ (q : HaveMessage). joined state (give_of a.held q).content) (sym have)
    ∙ one_brings k a.held (have_in c state b) state own each.0 has in
    let then = joined state r.content in
    let formed_then = subst IsFormed (sym one) (formed-answer k valid state b own) in
    let held_then : HasRecords k then =
    λ x here. subst (λ (s : State). Has s.records x) (sym one)
    (with_items-new IsDistrust distrust_cmp exact-records k.records state.records valid.distrusts own.records x here) in
    after_shown c k bs (place + 1) then gives asked valid formed_then each.1 (inl held_then) later tail (omega (arith, few))
    ∙ ap (λ (s : State). after_answers k s (drop (place + 1) bs)) one
    ∙ ap (after_answers k state) (sym (left_items bs place (omega (arith, few))))
