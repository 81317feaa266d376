-- Line errors, line by line.
use Rattle.std.proofs.Common.{◌≡◌, ℕ, zero, suc, ◌+◌, ◌<◌, ◌≤◌, List, [], ◌∷◌, ◌++◌, length, ◌⊎◌, inl, inr, Some, refl, sym, ap, ◌∙◌, subst, arith}
use Rattle.std.specs.Prelude.{Contains, slice_get}
use Rattle.std.specs.declared.cmp.Ordering.{Ordering}
use Rattle.std.specs.declared.cmp.Ordering.TheVariants.{Less}
use Rattle.std.specs.List.{AllByRecursion}
use Rattle.std.specs.List.Sorted.{IsStrictlySortedBy}
use Rattle.std.proofs.lemmas.List.{length-append, length_push}
use Rattle.std.proofs.lemmas.List.Elements.{Contains-append_left, Contains-push, Contains-push_cases}
use Rattle.std.proofs.lemmas.Option.{slice_get_within}
use Rattle.fed_config.specs.Configuration.{Configuration, IsConfiguration}
use Rattle.byte_lines.specs.Lines.{Lines}
use Rattle.receipt_core.proofs.OrderFacts.{cmp_less}
use Rattle.receipt_core.proofs.RisingFacts.{Has, Contains-from_has}
use Rattle.fedbundle.specs.Stream.{IsRefusedLine, NumberedError, IsOfLine, IsOfRest, line_error_cmp, AreLineErrors, AreFirstLineErrors}
use Rattle.fedbundle.specs.declared.line_fault.LineFault.{LineFault}
use Rattle.fedbundle.specs.declared.line_fault.LineFault.TheVariants.{Cut}
use Rattle.fedbundle.proofs.TakenFacts.{one_cause}

-- ---- places

-- an item keeps its place when others are added at the end
get_front : {A : Type 0} (xs ys : List A) (k : ℕ) (x : A) → slice_get xs k ≡ Some x → slice_get (xs ++ ys) k ≡ Some x
get_front [] ys k x e = absurd (cc)
get_front (z ∷ xs) ys zero x e = e
get_front (z ∷ xs) ys (suc k) x e = get_front xs ys k x e

-- an item at a place of the front is an item of the front
get_back : {A : Type 0} (xs ys : List A) (k : ℕ) (x : A) → k < length xs → slice_get (xs ++ ys) k ≡ Some x → slice_get xs k ≡ Some x
get_back [] ys k x low e = absurd (omega arith)
get_back (z ∷ xs) ys zero x low e = e
get_back (z ∷ xs) ys (suc k) x low e = get_back xs ys k x (omega arith) e

-- an item added at the end is there
get_last : {A : Type 0} (xs : List A) (y : A) → slice_get (xs ++ y ∷ []) (length xs) ≡ Some y
get_last [] y = refl
get_last (z ∷ xs) y = get_last xs y

-- ---- sorted lists

-- what holds of all items and of one more holds of all with that one at the end
all_push : {A : Type 0} (P : A → Type 0) (xs : List A) (y : A) → AllByRecursion P xs → P y → AllByRecursion P (xs ++ y ∷ [])
all_push P [] y all p = (p, tt)
all_push P (x ∷ xs) y all p = (all.0, all_push P xs y all.1 p)

-- a sorted list is sorted with an item at the end that is above all of it
rising_push : {A : Type 0} (cmp : A → A → Ordering) (xs : List A) (y : A) → IsStrictlySortedBy cmp xs
    → ((x : A) → Has xs x → cmp x y ≡ Less) → IsStrictlySortedBy cmp (xs ++ y ∷ [])
unfolding IsStrictlySortedBy
rising_push cmp [] y rising below = (tt, tt)
rising_push cmp (x ∷ xs) y rising below = (
  all_push (λ z. cmp x z ≡ Less) xs y rising.0 (below x (inl refl)),
  rising_push cmp xs y rising.1 (λ z h. below z (inr h)),
)

-- ---- errors of whole lines

-- lines without a rest
abbrev pub only : List (List ℕ) → Lines
only texts = record { whole = texts; rest = [] }

-- lines without a rest have no error of a rest
none_of_rest : (texts : List (List ℕ)) (x : NumberedError) → IsOfRest (only texts) x → ⊥
none_of_rest texts x is = let more = is.more in omega arith

-- an error of a line remains one when lines are added after it
of_line_before : (c : Configuration) (texts more : List (List ℕ)) (x : NumberedError) → IsOfLine c texts x → IsOfLine c (texts ++ more) x
of_line_before c texts more x is = record {
  place = is.place;
  number = is.number;
  text = is.text;
  placed =
      get_front texts more is.place is.text is.placed;
  refused = is.refused;
}

-- an error of a line has a number that is within the lines
of_line_low : (c : Configuration) (texts : List (List ℕ)) (x : NumberedError) → IsOfLine c texts x → x.number ≤ length texts
of_line_low c texts x is = let low = slice_get_within texts is.place is.text is.placed in let at = is.number in omega arith

-- an error whose number is within the first lines is an error of these
of_line_back : (c : Configuration) (texts more : List (List ℕ)) (x : NumberedError) → x.number ≤ length texts → IsOfLine c (texts ++ more) x
    → IsOfLine c texts x
of_line_back c texts more x low is =
    let at = is.number in
    record { place = is.place; number = is.number; text = is.text; placed = get_back texts more is.place is.text (omega arith) is.placed; refused = is.refused }

-- the line errors of whole lines are errors of those lines
pub whole_sound : (c : Configuration) (texts : List (List ℕ)) (xs : List NumberedError) (x : NumberedError)
    → AreLineErrors c (only texts) xs → Contains xs x → IsOfLine c texts x
whole_sound c texts xs x are has = elim (are.sound x has) [ inl is ↦ is | inr rest ↦ absurd (none_of_rest texts x rest) ]

-- ---- one line more

-- if there are no lines, there are no line errors
pub line_errors_none : (c : Configuration) → AreLineErrors c (only []) []
unfolding IsStrictlySortedBy
line_errors_none c = record {
  rising = tt;
  sound = λ x has. absurd (omega (arith, has.1));
  complete = λ x is. absurd (elim is [
    | inl of_line ↦ let low = of_line_low c [] x of_line in let at = of_line.number in omega arith
    | inr of_rest ↦ none_of_rest [] x of_rest
  ]);
}

-- the errors of lines with one more are those of the lines and those of the last
last_cases : (c : Configuration) (texts : List (List ℕ)) (text : List ℕ) (x : NumberedError) → IsOfLine c (texts ++ text ∷ []) x
    → IsOfLine c texts x ⊎ ((x.number ≡ length texts + 1) × IsRefusedLine c text x.why)
last_cases c texts text x is =
    let at = is.number in
    let low = slice_get_within (texts ++ text ∷ []) is.place is.text is.placed in
    let size = length_push texts text in
    elim (below_or_last is.place (length texts) (omega arith)) [
      | inl before ↦ inl (record {
        place = is.place;
        number = is.number;
        text = is.text;
        placed =
            get_back texts (text ∷ []) is.place is.text before is.placed;
        refused = is.refused;
      })
      | inr e ↦
          let here : Some is.text ≡ Some text = sym is.placed ∙ ap (slice_get (texts ++ text ∷ [])) e ∙ get_last texts text in
          let same : is.text ≡ text = cc in
          inr (at ∙ ap (λ n. n + 1) e, subst (λ (t : List ℕ). IsRefusedLine c t x.why) same is.refused)
    ]
  where
    below_or_last : (k n : ℕ) → k < n + 1 → (k < n) ⊎ (k ≡ n)
    below_or_last k zero h = inr (omega arith)
    below_or_last zero (suc n) h = inl (omega arith)
    below_or_last (suc k) (suc n) h = elim (below_or_last k n (omega arith)) [ inl low ↦ inl (omega arith) | inr e ↦ inr (ap suc e) ]

-- a line that is not refused adds no line error
pub line_errors_same : (c : Configuration) (texts : List (List ℕ)) (text : List ℕ) (xs : List NumberedError)
    → AreLineErrors c (only texts) xs → ((why : LineFault) → IsRefusedLine c text why → ⊥)
    → AreLineErrors c (only (texts ++ text ∷ [])) xs
line_errors_same c texts text xs are none = record {
  rising = are.rising;
  sound = λ x has. inl (of_line_before c texts (text ∷ []) x (whole_sound c texts xs x are has));
  complete = λ x is. elim is [
    | inl of_line ↦ elim (last_cases c texts text x of_line) [
      | inl before ↦ are.complete x (inl before)
      | inr here ↦ absurd (none x.why here.1)
    ]
    | inr of_rest ↦ absurd (none_of_rest (texts ++ text ∷ []) x of_rest)
  ];
}

-- an error of the line with this number
abbrev pub at_number : ℕ → LineFault → NumberedError
at_number n why = record { number = n; why = why }

-- line errors are sorted with one of the next line at the end
low_rising : (c : Configuration) (texts : List (List ℕ)) (xs : List NumberedError) (why : LineFault) → AreLineErrors c (only texts) xs
    → IsStrictlySortedBy line_error_cmp (xs ++ at_number (length texts + 1) why ∷ [])
low_rising c texts xs why are =
    rising_push line_error_cmp xs (at_number (length texts + 1) why) are.rising
    (λ x has. let low = of_line_low c texts x (whole_sound c texts xs x are (Contains-from_has xs x has)) in cmp_less x.number (length texts + 1) (omega arith))

-- a refused line adds one line error, at the end
pub line_errors_more : (c : Configuration) (texts : List (List ℕ)) (text : List ℕ) (why : LineFault)
    (xs : List NumberedError) → IsConfiguration c → AreLineErrors c (only texts) xs → IsRefusedLine c text why
    → AreLineErrors c (only (texts ++ text ∷ [])) (xs ++ at_number (length texts + 1) why ∷ [])
line_errors_more c texts text why xs valid are refused = record {
  rising = low_rising c texts xs why are;
  sound = λ x has. elim (Contains-push_cases xs (at_number (length texts + 1) why) x has) [
    | inl before ↦ inl (of_line_before c texts (text ∷ []) x (whole_sound c texts xs x are before))
    | inr e ↦ inl (subst (IsOfLine c (texts ++ text ∷ [])) e
        (record { place = length texts; number = refl; text = text; placed = get_last texts text; refused = refused }))
  ];
  complete = λ x is. elim is [
    | inl of_line ↦ elim (last_cases c texts text x of_line) [
      | inl before ↦ Contains-append_left xs (at_number (length texts + 1) why ∷ []) x (are.complete x (inl before))
      | inr here ↦ subst (Contains (xs ++ at_number (length texts + 1) why ∷ []))
          (λ i. record { number = sym here.0 i; why = one_cause c text why x.why valid refused here.1 i }) (Contains-push xs (at_number (length texts + 1) why))
    ]
    | inr of_rest ↦ absurd (none_of_rest (texts ++ text ∷ []) x of_rest)
  ];
}

-- ---- the rest

-- a rest that is not empty adds one line error, at the end
pub line_errors_rest : (c : Configuration) (texts : List (List ℕ)) (rest : List ℕ) (xs : List NumberedError) → AreLineErrors c (only texts) xs → 0 < length rest
    → AreLineErrors c (record { whole = texts; rest = rest }) (xs ++ at_number (length texts + 1) Cut ∷ [])
line_errors_rest c texts rest xs are more = record {
  rising = low_rising c texts xs Cut are;
  sound = λ x has. elim (Contains-push_cases xs (at_number (length texts + 1) Cut) x has) [
    | inl before ↦ inl (whole_sound c texts xs x are before)
    | inr e ↦ inr (subst (IsOfRest (record { whole = texts; rest = rest })) e (record { number = refl; why = refl; more = more }))
  ];
  complete = λ x is. elim is [
    | inl of_line ↦ Contains-append_left xs (at_number (length texts + 1) Cut ∷ []) x (are.complete x (inl of_line))
    | inr of_rest ↦ subst (Contains (xs ++ at_number (length texts + 1) Cut ∷ []))
        (λ i. record { number = sym of_rest.number i; why = sym of_rest.why i }) (Contains-push xs (at_number (length texts + 1) Cut))
  ];
}

-- ---- the first of them

-- the first line errors may be all of them
pub first_all : (c : Configuration) (lines : Lines) (xs : List NumberedError) → AreLineErrors c lines xs → AreFirstLineErrors c lines xs
first_all c lines xs are = record { rising = are.rising; sound = are.sound; before = λ x y has is low. are.complete y is }

-- the line errors of the first lines are the first of all
pub first_whole : (c : Configuration) (texts more : List (List ℕ)) (lines : Lines) (xs : List NumberedError)
    → lines.whole ≡ texts ++ more → AreLineErrors c (only texts) xs → AreFirstLineErrors c lines xs
first_whole c texts more lines xs e are = record {
  rising = are.rising;
  sound = λ x has. inl (subst (λ (t : List (List ℕ)). IsOfLine c t x) (sym e) (of_line_before c texts more x (whole_sound c texts xs x are has)));
  before = λ x y has is low.
      let below = of_line_low c texts x (whole_sound c texts xs x are has) in
      elim is [
        | inl of_line ↦ are.complete y (inl (of_line_back c texts more y (omega arith) (subst (λ (t : List (List ℕ)). IsOfLine c t y) e of_line)))
        | inr of_rest ↦ absurd (let at = of_rest.number in let size = ap length e ∙ length-append texts more in omega arith)
      ];
}
