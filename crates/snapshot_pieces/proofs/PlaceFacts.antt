-- The place of the receipts behind one, in a sorted list.
use Rattle.std.proofs.Common.{◌≡◌, ℕ, zero, suc, ◌+◌, Bool, true, false, cond, List, [], ◌∷◌, drop, drop-drop}
use Rattle.std.proofs.Common.{Option, None, Some, Less, Equal, Greater, refl, sym, ap, ◌∙◌, subst, filter, Bor, option_copied}
use Rattle.std.specs.Iterator.{YieldsFirstRef}
use Rattle.std.specs.Ordering.{is_lt}
use Rattle.std.specs.Cmp.{IsTotalOrder}
use Rattle.std.specs.List.{AllByRecursion, cons_option}
use Rattle.std.specs.List.Sorted.{IsStrictlySortedBy}
use Rattle.std.specs.declared.cmp.Ordering.{Ordering}
use Rattle.std.proofs.lemmas.Map.Keys.{sorted_head, sorted_tail}

-- After a step of the iterator, one more is passed over, or none was left.
pub one_passed : {A : Type 0} (all old new : List A) (n : ℕ) (o : Option (Bor A)) → YieldsFirstRef (λ rest. rest) old o new
    → old ≡ drop n all → new ≡ drop (n + 1) all
one_passed all old new n None h e = h.1 ∙ sym (ap (drop 1) h.0) ∙ ap (drop 1) e ∙ drop-drop 1 n all
one_passed all old new n (Some x) h e = sym (ap (drop 1) h) ∙ ap (drop 1) e ∙ drop-drop 1 n all

-- What holds of all items holds of those that are left.
all_drop : {A : Type 0} (P : A → Type 0) (n : ℕ) (xs : List A) → AllByRecursion P xs → AllByRecursion P (drop n xs)
all_drop P zero xs h = h
all_drop P (suc n) [] h = h
all_drop P (suc n) (x ∷ xs) h = all_drop P n xs h.1

-- An order that is less is `Less`.
pub less_of : (a : Ordering) → is_lt a ≡ true → a ≡ Less
less_of Less h = refl
less_of Equal h = absurd (cc)
less_of Greater h = absurd (cc)

-- What the iterator gives first and what is left are what it had.
pub lent_next : {A : Type 0} (old new : List A) (o : Option (Bor A)) → YieldsFirstRef (λ rest. rest) old o new
    → cons_option (option_copied o) new ≡ old
lent_next old new None h = h.1 ∙ sym h.0
lent_next old new (Some x) h = sym h

-- If it gives nothing, it had nothing.
pub lent_ends : {A : Type 0} (old new : List A) (o : Option (Bor A)) → YieldsFirstRef (λ rest. rest) old o new
    → option_copied o ≡ None → old ≡ []
lent_ends old new None h e = h.0
lent_ends old new (Some x) h e = absurd (cc)

-- What is left of a sorted list is sorted.
pub rising_drop : {A : Type 0} (R : A → A → Ordering) (n : ℕ) (xs : List A) → IsStrictlySortedBy R xs → IsStrictlySortedBy R (drop n xs)
rising_drop R zero xs h = h
rising_drop R (suc n) [] h = h
rising_drop R (suc n) (x ∷ xs) h = rising_drop R n xs (sorted_tail R x xs h)

-- What is left after one step is sorted.
pub rising_rest : {A : Type 0} (R : A → A → Ordering) (x : A) (old rest : List A) → old ≡ x ∷ rest → IsStrictlySortedBy R old
    → IsStrictlySortedBy R rest
rising_rest {A} R x old rest e h = sorted_tail R x rest (subst (λ (xs : List A). IsStrictlySortedBy R xs) e h)

-- What the test of an order says of two receipts.
pub tested : (order two : Ordering) (answer b : Bool) → order ≡ two → answer ≡ is_lt order → answer ≡ b → is_lt two ≡ b
tested order two answer b e f h = sym (f ∙ ap is_lt e) ∙ h

module _ {A : Type 0} {R : A → A → Ordering} (o : IsTotalOrder R) (last : A) where
  -- Whether it is behind the last one.
  abbrev is_behind : A → Bool
  is_behind r = is_lt (R last r)

  -- One that is not behind is left out.
  pub one_skipped : (x : A) (old rest : List A) → old ≡ x ∷ rest → is_lt (R last x) ≡ false
      → filter (λ r. is_lt (R last r)) rest ≡ filter (λ r. is_lt (R last r)) old
  one_skipped x old rest e h =
      sym (ap (filter is_behind) e ∙ ap (λ b. cond b (x ∷ filter is_behind rest) (filter is_behind rest)) h)

  -- If one is behind, all that follow it are.
  pub all_behind : (x : A) (rest : List A) → IsStrictlySortedBy R (x ∷ rest) → is_lt (R last x) ≡ true
      → filter (λ r. is_lt (R last r)) (x ∷ rest) ≡ x ∷ rest
  all_behind x [] rising h = ap (λ b. cond b (x ∷ []) []) h
  all_behind x (y ∷ rest) rising h =
      let next : R last y ≡ Less = o.trans last x y (less_of (R last x) h) (sorted_head R x (y ∷ rest) rising).0 in
      ap (λ b. cond b (x ∷ filter is_behind (y ∷ rest)) (filter is_behind (y ∷ rest))) h
      ∙ ap (λ ys. x ∷ ys) (all_behind y rest (sorted_tail R x (y ∷ rest) rising) (ap is_lt next))

  -- One step of `not_behind`, for each order of the two.
  not_less : (a : Ordering) → (a ≡ Less → ⊥) → is_lt a ≡ false
  not_less Less h = absurd (h refl)
  not_less Equal h = refl
  not_less Greater h = refl

  -- What is before one that is not behind is not behind either.
  not_behind : (x y : A) → R y x ≡ Less → is_lt (R last x) ≡ false → is_lt (R last y) ≡ false
  not_behind x y before h =
      not_less (R last y) (λ less. let there : R last x ≡ Less = o.trans last y x less before in
      let no : is_lt (R last x) ≡ true = ap is_lt there in absurd (cc))

  -- If one is not behind, none before it is.
  pub none_before : (held : List A) (n : ℕ) (x : A) (rest : List A) → IsStrictlySortedBy R held → drop n held ≡ x ∷ rest
      → is_lt (R last x) ≡ false → filter (λ r. is_lt (R last r)) (drop n held) ≡ filter (λ r. is_lt (R last r)) held
  none_before held zero x rest rising e h = refl
  none_before [] (suc n) x rest rising e h = refl
  none_before (y ∷ ys) (suc n) x rest rising e h =
      let above : AllByRecursion (λ z. R y z ≡ Less) (x ∷ rest) =
      subst (λ (zs : List A). AllByRecursion (λ z. R y z ≡ Less) zs) e
      (all_drop (λ z. R y z ≡ Less) n ys (sorted_head R y ys rising)) in
      none_before ys n x rest (sorted_tail R y ys rising) e h ∙ one_skipped y (y ∷ ys) ys refl (not_behind x y above.0 h)

  -- The first one that is behind, and those that follow it, are those that are behind.
  pub found_behind : (x : A) (old rest whole : List A) → IsStrictlySortedBy R old → old ≡ x ∷ rest
      → filter (λ r. is_lt (R last r)) old ≡ filter (λ r. is_lt (R last r)) whole → is_lt (R last x) ≡ true
      → x ∷ rest ≡ filter (λ r. is_lt (R last r)) whole
  found_behind x old rest whole rising e after h =
      sym (all_behind x rest (subst (λ (xs : List A). IsStrictlySortedBy R xs) e rising) h) ∙ ap (filter is_behind) (sym e) ∙ after

  -- If one is not behind, those behind are among those that follow it.
  pub behind_rest : (held : List A) (n : ℕ) (x : A) (old rest : List A) → IsStrictlySortedBy R held → old ≡ drop n held → old ≡ x ∷ rest
      → is_lt (R last x) ≡ false → filter (λ r. is_lt (R last r)) rest ≡ filter (λ r. is_lt (R last r)) held
  behind_rest held n x old rest rising e first h =
      one_skipped x old rest first h ∙ ap (filter is_behind) e ∙ none_before held n x rest rising (sym e ∙ first) h
