-- Lemmas on the lines of an audit file, of which the last ones are cut off.
use Rattle.std.proofs.Common.{◌≡◌, ℕ, inl, inr, List, [], ◌∷◌, ◌++◌, take, length, sym, ap, subst, arith, drop, refl, ◌∙◌, append-nil, append_assoc}
use Rattle.std.proofs.Common.{replicate, take-append-drop}
use Rattle.std.proofs.lemmas.Bool.{true≢false}
use Rattle.std.proofs.lemmas.List.Elements.{All-cons, All-contains, All-head, All-nil, All-push, All-tail, Contains-append_cases, Contains-append_left}
use Rattle.std.specs.Prelude.{Bool, Contains, true, false, ◌==◌}
use Rattle.byte_lines.specs.Lines.{Lines, lines_of}
use Rattle.state_steps.specs.Audits.{AuditTexts, IsAuditOn, IsPartlyAudited}
use Rattle.state_steps.specs.Cuts.{AreHeld, AreUnheld, EndsHeld, IsCutBehind, HeldComeFirst, IsLastAs}
use Rattle.state_steps.specs.Cuts.{IsSame, lines_found, with_part}
use Rattle.state_steps.specs.Files.{FileText, HasWholeLine, IsLeftOf, IsRemnantOf}
use Rattle.state_steps.specs.declared.appending.AppendStep.TheVariants.{WriteLines, SyncLines, SeeNames}
use Rattle.state_steps.specs.declared.keeping.KeepStage.{KeepStage}
use Rattle.state_steps.specs.declared.keeping.KeepStage.TheVariants.{Kept, Due, Failed}
use Rattle.state_steps.specs.declared.keeping.KeepStep.TheVariants.{Audit, State}
use Rattle.state_steps.proofs.KeepFacts.{all_written, nothing_written}
use Rattle.state_steps.proofs.LineFacts.{lines_more, part_of_none, text_joined, zeros_behind}

-- ---- what is kept is what is held

not_both : (held : Bool) → held ≡ true → held ≡ false → ⊥
not_both held is isnt = true≢false (sym is ∙ isnt)

-- Not all lines are without what is held if the last of the first ones has it.
last_unheld : (held : List ℕ → Bool) (line : List ℕ) (lines behind : List (List ℕ)) → IsLastAs held true (line ∷ lines)
    → AreUnheld held ((line ∷ lines) ++ behind) → ⊥
last_unheld held line [] behind last none = not_both (held line) last (All-head (λ l. held l ≡ false) line behind none)
last_unheld held line (other ∷ lines) behind last none = last_unheld held other lines behind last
    (All-tail (λ l. held l ≡ false) line ((other ∷ lines) ++ behind) none)

pub stay_held : (held : List ℕ → Bool) (stay behind : List (List ℕ)) → EndsHeld held stay → HeldComeFirst held (stay ++ behind)
    → AreHeld held stay
stay_held held [] behind ends order = All-nil (λ l. held l ≡ true)
stay_held held (line ∷ []) behind ends order = All-cons (λ l. held l ≡ true) line [] ends (All-nil (λ l. held l ≡ true))
stay_held held (line ∷ (other ∷ lines)) behind ends (inl none) = absurd (last_unheld held line (other ∷ lines) behind ends none)
stay_held held (line ∷ (other ∷ lines)) behind ends (inr order) =
    All-cons (λ l. held l ≡ true) line (other ∷ lines) order.0 (stay_held held (other ∷ lines) behind ends order.1)

pub each_stays : (held : List ℕ → Bool) (stay behind : List (List ℕ)) (line : List ℕ) → AreUnheld held behind
    → Contains (stay ++ behind) line → held line ≡ true → Contains stay line
each_stays held stay behind line off has is = elim (Contains-append_cases stay behind line has) [
  | inl stays ↦ stays
  | inr cut ↦ absurd (not_both (held line) is (All-contains (λ l. held l ≡ false) behind line off cut))
]

same_held : (held : List ℕ → Bool) (stay behind : List (List ℕ)) → IsCutBehind held stay behind → HeldComeFirst held (stay ++ behind)
    → IsSame held (stay ++ behind) stay
same_held held stay behind cut order = record {
  all_held = stay_held held stay behind cut.last order;
  each = λ line. λ has. λ is. each_stays held stay behind line cut.off has is;
}

pub same_found : (held : List ℕ → Bool) (found stay behind : List (List ℕ)) → found ≡ stay ++ behind → IsCutBehind held stay behind
    → HeldComeFirst held found → IsSame held found stay
same_found held found stay behind is cut first = subst (λ lines. IsSame held lines stay) (sym is)
    (same_held held stay behind cut (subst (HeldComeFirst held) is first))

found_whole : (lines : List (List ℕ)) (rest line : List ℕ) → Contains lines line → Contains (with_part lines rest) line
found_whole lines [] line has = has
found_whole lines (byte ∷ rest) line has = Contains-append_left lines ((byte ∷ rest) ∷ []) line has

-- A line whose change is held is kept if the last ones are cut off.
pub change_stays : (held : List ℕ → Bool) (text : List ℕ) (stay behind : List (List ℕ)) (line : List ℕ) → HasWholeLine text line
    → held line ≡ true → lines_found text ≡ stay ++ behind → IsCutBehind held stay behind → Contains stay line
change_stays held text stay behind line has is found cut = each_stays held stay behind line cut.off
    (subst (λ lines. Contains lines line) found (found_whole (lines_of text).whole (lines_of text).rest line has)) is

-- ---- what a stop leaves is in order

unheld_left : (held : List ℕ → Bool) (lines more : List (List ℕ)) → AreUnheld held (lines ++ more) → AreUnheld held lines
unheld_left held [] more none = All-nil (λ l. held l ≡ false)
unheld_left held (line ∷ lines) more none = All-cons (λ l. held l ≡ false) line lines
    (All-head (λ l. held l ≡ false) line (lines ++ more) none)
    (unheld_left held lines more (All-tail (λ l. held l ≡ false) line (lines ++ more) none))

-- a beginning of lines in order
begins_in_order : (held : List ℕ → Bool) (lines more : List (List ℕ)) → HeldComeFirst held (lines ++ more) → HeldComeFirst held lines
begins_in_order held [] more order = tt
begins_in_order held (line ∷ lines) more (inl none) = inl (unheld_left held (line ∷ lines) more none)
begins_in_order held (line ∷ lines) more (inr order) = inr (order.0, begins_in_order held lines more order.1)

-- lines that are held, before lines in order
held_before : (held : List ℕ → Bool) (lines more : List (List ℕ)) → AreHeld held lines → HeldComeFirst held more → HeldComeFirst held (lines ++ more)
held_before held [] more all order = order
held_before held (line ∷ lines) more all order = inr (
  All-head (λ l. held l ≡ true) line lines all,
  held_before held lines more (All-tail (λ l. held l ≡ true) line lines all) order,
)

-- a part of a line, which reports nothing, behind lines in order
part_behind : (held : List ℕ → Bool) (lines : List (List ℕ)) (part : List ℕ) → held part ≡ false → HeldComeFirst held lines
    → HeldComeFirst held (lines ++ part ∷ [])
part_behind held [] part is order = inl (All-cons (λ l. held l ≡ false) part [] is (All-nil (λ l. held l ≡ false)))
part_behind held (line ∷ lines) part is (inl none) = inl (All-push (λ l. held l ≡ false) (line ∷ lines) part none is)
part_behind held (line ∷ lines) part is (inr order) = inr (order.0, part_behind held lines part is order.1)

found_in_order : (held : List ℕ → Bool) (lines : List (List ℕ)) (rest : List ℕ) → held rest ≡ false → HeldComeFirst held lines
    → HeldComeFirst held (with_part lines rest)
found_in_order held lines [] is order = order
found_in_order held lines (byte ∷ rest) is order = part_behind held lines (byte ∷ rest) is order

-- ---- what a stop leaves of an audit file

-- A beginning of the lines of a turn is behind those of the turns before, and zeros behind it.
abbrev IsBegun : AuditTexts → List ℕ → Type 0
IsBegun texts text = (part more : List ℕ) × (zeros : ℕ) × (texts.turn ≡ part ++ more) × (text ≡ (texts.earlier ++ part) ++ replicate zeros 0)

begun_partly : (texts : AuditTexts) (audit : FileText) (text : List ℕ) → IsPartlyAudited texts audit → IsLeftOf audit text
    → IsBegun texts text
begun_partly texts audit text (inl is) left =
    let none : left.0 ≡ [] = part_of_none left.0 (subst (λ (f : FileText). IsRemnantOf f.since left.0) is left.1) in
    let at : text ≡ (texts.earlier ++ texts.turn) ++ left.0 = subst (λ (f : FileText). text ≡ f.kept ++ left.0) is left.2 in
    (texts.turn, [], 0, sym (append-nil texts.turn), at ∙ ap (λ t. (texts.earlier ++ texts.turn) ++ t) none)
begun_partly texts audit text (inr is) left =
    let turn = texts.turn in
    let written = take is.0 turn in
    let found : IsRemnantOf written left.0 = subst (λ (f : FileText). IsRemnantOf f.since left.0) is.1 left.1 in
    let part = take found.0 written in
    let at : text ≡ texts.earlier ++ left.0 = subst (λ (f : FileText). text ≡ f.kept ++ left.0) is.1 left.2 in
    let whole : (part ++ drop found.0 written) ++ drop is.0 turn ≡ turn =
    ap (λ t. t ++ drop is.0 turn) (take-append-drop found.0 written) ∙ take-append-drop is.0 turn in (
      part,
      drop found.0 written ++ drop is.0 turn,
      found.1,
      sym whole ∙ append_assoc part (drop found.0 written) (drop is.0 turn),
      at ∙ ap (λ t. texts.earlier ++ t) found.3 ∙ sym (append_assoc texts.earlier part (replicate found.1 0)),
    )

partly_on : (texts : AuditTexts) (stage : KeepStage) (audit : FileText) → IsAuditOn texts stage audit → IsPartlyAudited texts audit
partly_on texts Kept audit due = nothing_written texts audit due
partly_on texts (Due (Audit WriteLines)) audit due = nothing_written texts audit due
partly_on texts (Due (Audit SyncLines)) audit due = all_written texts audit due
partly_on texts (Due (Audit SeeNames)) audit due = inl due
partly_on texts (Due State) audit due = inl due
partly_on texts Failed audit due = due

begun_in_order : (held : List ℕ → Bool) (earlier part more : List ℕ) (zeros : ℕ) → (lines_of earlier).rest ≡ []
    → AreHeld held (lines_of earlier).whole → HeldComeFirst held (lines_of (part ++ more)).whole
    → held (lines_of ((earlier ++ part) ++ replicate zeros 0)).rest ≡ false
    → HeldComeFirst held (lines_found ((earlier ++ part) ++ replicate zeros 0))
begun_in_order held earlier part more zeros ends all order torn =
    let begins = lines_more part more in
    let text = (earlier ++ part) ++ replicate zeros 0 in
    let same : (lines_of text).whole ≡ (lines_of earlier).whole ++ (lines_of part).whole =
    zeros_behind (earlier ++ part) zeros ∙ ap (λ (l : Lines). l.whole) (text_joined earlier part ends) in
    let lines : HeldComeFirst held ((lines_of earlier).whole ++ (lines_of part).whole) = held_before held (lines_of earlier).whole (lines_of part).whole all
    (begins_in_order held (lines_of part).whole begins.0 (subst (HeldComeFirst held) begins.1 order)) in
    found_in_order held (lines_of text).whole (lines_of text).rest torn (subst (HeldComeFirst held) (sym same) lines)

pub left_in_order : (texts : AuditTexts) (stage : KeepStage) (audit : FileText) (text : List ℕ) (held : List ℕ → Bool)
    → IsAuditOn texts stage audit → IsLeftOf audit text → (lines_of texts.earlier).rest ≡ [] → AreHeld held (lines_of texts.earlier).whole
    → HeldComeFirst held (lines_of texts.turn).whole → held (lines_of text).rest ≡ false → HeldComeFirst held (lines_found text)
left_in_order texts stage audit text held due left ends all order torn =
    let begun = begun_partly texts audit text (partly_on texts stage audit due) left in
    subst (λ t. HeldComeFirst held (lines_found t)) (sym begun.4) (begun_in_order held texts.earlier begun.0 begun.1 begun.2 ends all
    (subst (λ t. HeldComeFirst held (lines_of t).whole) begun.3 order)
    (subst (λ t. held (lines_of t).rest ≡ false) begun.4 torn))
