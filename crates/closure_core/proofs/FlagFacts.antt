-- Flags that are raised, and how many
use Rattle.std.proofs.Common.{◌≡◌, ℕ, zero, suc, ◌+◌, ◌-◌, ◌<◌, ◌≤◌, ◌⊎◌, inl, inr, Bool, true, false, ◌&&◌, cond, List}
use Rattle.std.proofs.Common.{[], ◌∷◌, length, get_or, take, map, Some, arith, refl, sym, ap, ◌∙◌, subst}
use Rattle.std.specs.Prelude.{Contains, slice_get, not, count_by, ◌↔◌}
use Rattle.std.proofs.lemmas.Bool.{cases_lt, cases_eq, cases_Bool, both_ways, and_parts, and_from, not-true, not_from_false, false_from_ne_true}
use Rattle.std.proofs.lemmas.List.{length-map, take_all, get_or_past}
use Rattle.std.proofs.lemmas.List.Sums.{count_by_more_yes, count_by_more_no}
use Rattle.std.proofs.lemmas.Option.{same_Some, slice_get-get_or, get_or_from_slice_get}
use Rattle.receipt_core.specs.Receipt.{Pair}
use Rattle.receipt_core.specs.Acceptance.{Meaning, IsMember}
use Rattle.closure_core.proofs.ContainsFacts.{contains_first, contains_later, contains_cases, contains_map, mapped}
use Rattle.closure_core.specs.Count.{AreDifferent, IsCount}
use Rattle.closure_core.specs.Inside.Nodes.{is_raised}
use Rattle.closure_core.specs.Inside.Flags.{raised_count, ReportsMembers}

-- the number is that of the first node with the document of one of these nodes
abbrev pub IsFirstOf : List ℕ → List ℕ → ℕ → Type 0
IsFirstOf firsts nodes number = (node : ℕ) × Contains nodes node
    × (slice_get firsts node ≡ Some number)

-- The flags of these nodes' first numbers are raised, and the others are as they were.
pub record Raises (firsts nodes : List ℕ) (old new : List Bool) : Type 0 where
  pub size : length new ≡ length old
  pub each : (number : ℕ) → (is_raised new number ≡ true) ↔
      ((is_raised old number ≡ true) ⊎ IsFirstOf firsts nodes number)

-- ---- the numbers below a bound that pass a test

-- the numbers below a bound that pass a test, from the top down
abbrev pub passing : (ℕ → Bool) → ℕ → List ℕ
passing test zero = []
passing test (suc n) = cond (test n) (n ∷ passing test n) (passing test n)

-- One step of `passing-to`, for either outcome of the test.
passing-cases : (test : ℕ → Bool) (n : ℕ) (b : Bool) → test n ≡ b → (k : ℕ)
    → Contains (cond b (n ∷ passing test n) (passing test n)) k
    → ((k ≡ n) × (test n ≡ true)) ⊎ Contains (passing test n) k
passing-cases test n true e k c = elim (contains_cases n (passing test n) k c) [ inl a ↦ inl (sym a, e) | inr d ↦ inr d ]
passing-cases test n false e k c = inr c

-- A number that is listed is below the bound and passes.
pub passing-to : (test : ℕ → Bool) (n k : ℕ) → Contains (passing test n) k → (k < n) × (test k ≡ true)
passing-to test zero k c = absurd (omega (arith, c.1))
passing-to test (suc n) k c =
    elim (passing-cases test n (test n) refl k c) [
      | inl a ↦ (omega (arith, a.0), ap test a.0 ∙ a.1)
      | inr d ↦ let h = passing-to test n k d in (omega (arith, h.0), h.1)
    ]

-- A step never takes a listed number away.
passing-kept : (test : ℕ → Bool) (n : ℕ) (b : Bool) (k : ℕ) → Contains (passing test n) k → Contains (cond b (n ∷ passing test n) (passing test n)) k
passing-kept test n true k c = contains_later n (passing test n) k c
passing-kept test n false k c = c

-- A step lists its own number if that passes.
passing-here : (test : ℕ → Bool) (n : ℕ) (b : Bool) → b ≡ true → Contains (cond b (n ∷ passing test n) (passing test n)) n
passing-here test n true e = contains_first n (passing test n)
passing-here test n false e = absurd (both_ways false refl e)

-- Each number below the bound that passes is listed.
pub passing-from : (test : ℕ → Bool) (n k : ℕ) → k < n → test k ≡ true → Contains (passing test n) k
passing-from test zero k l e = absurd (omega (arith, l))
passing-from test (suc n) k l e =
    elim (cases_eq k n) [
      | inl s ↦ subst (Contains (passing test (suc n))) (sym s) (passing-here test n (test n) (ap test (sym s) ∙ e))
      | inr d ↦ passing-kept test n (test n) k (passing-from test n k (omega (arith, l, d)) e)
    ]

-- One step of `passing-differ`, for either outcome of the test.
passing-differ_if : (test : ℕ → Bool) (n : ℕ) (b : Bool) → AreDifferent (passing test n) → AreDifferent (cond b (n ∷ passing test n) (passing test n))
passing-differ_if test n true h = (λ c. omega (arith, (passing-to test n n c).0), h)
passing-differ_if test n false h = h

-- No number is listed twice, so the list's length counts those that pass.
pub passing-differ : (test : ℕ → Bool) (n : ℕ) → AreDifferent (passing test n)
passing-differ test zero = tt
passing-differ test (suc n) = passing-differ_if test n (test n) (passing-differ test n)

-- A step whose number passes makes the list longer by one.
length-passing_yes : (test : ℕ → Bool) (n : ℕ) (b : Bool) → b ≡ true → length (cond b (n ∷ passing test n) (passing test n)) ≡ suc (length (passing test n))
length-passing_yes test n true e = refl
length-passing_yes test n false e = absurd (both_ways false refl e)

-- A step whose number fails leaves the list as long as it was.
length-passing_no : (test : ℕ → Bool) (n : ℕ) (b : Bool) → b ≡ false → length (cond b (n ∷ passing test n) (passing test n)) ≡ length (passing test n)
length-passing_no test n true e = absurd (both_ways true e refl)
length-passing_no test n false e = refl

-- The number of raised flags before a place is that of the numbers that are listed for it.
pub length-passing_flags : (flags : List Bool) (n : ℕ) → n ≤ length flags → length (passing (λ k. is_raised flags k) n) ≡ count_by (λ flag. flag) (take n flags)
length-passing_flags flags zero l = refl
length-passing_flags flags (suc n) l =
    let before = length-passing_flags flags n (omega (arith, l)) in
    let e : suc n ≡ n + 1 = omega arith in
    elim (cases_Bool (is_raised flags n)) [
      | inl a ↦
          let more = count_by_more_yes (λ flag. flag) flags n false (omega (arith, l)) a in
          length-passing_yes (λ k. is_raised flags k) n (is_raised flags n) a ∙ ap suc before
          ∙ (let s : suc (count_by (λ flag. flag) (take n flags)) ≡ count_by (λ flag. flag) (take n flags) + 1 =
          omega arith in s) ∙ sym more ∙ ap (λ k. count_by (λ flag. flag) (take k flags)) (sym e)
      | inr a ↦
          let more = count_by_more_no (λ flag. flag) flags n false (omega (arith, l)) a in
          length-passing_no (λ k. is_raised flags k) n (is_raised flags n) a ∙ before ∙ sym more ∙ ap (λ k. count_by (λ flag. flag) (take k flags)) (sym e)
    ]

-- The number of all raised flags is that of the numbers that are listed up to their end.
pub count-passing : (flags : List Bool) (n : ℕ) → length flags ≤ n → length (passing (λ k. is_raised flags k) n) ≡ raised_count flags
count-passing flags n l = more n (n - length flags) (omega (arith, l))
  where
    more : (n d : ℕ) → n ≡ length flags + d → length (passing (λ k. is_raised flags k) n) ≡ raised_count flags
    more n zero e =
        let at : n ≡ length flags = omega (arith, e) in
        ap (λ k. length (passing (λ i. is_raised flags i) k)) at
        ∙ length-passing_flags flags (length flags) (omega arith)
        ∙ ap (count_by (λ flag. flag)) (take_all (length flags) flags (omega arith))
    more zero (suc d) e = absurd (omega (arith, e))
    more (suc n) (suc d) e =
        length-passing_no (λ k. is_raised flags k) n (is_raised flags n) (get_or_past flags n false (omega (arith, e))) ∙ more n d (omega (arith, e))

-- those that pass one test and not a narrower one are the others
module _ (narrow wide : ℕ → Bool) (within : (k : ℕ) → narrow k ≡ true → wide k ≡ true) where
  -- what passes the wide test and not the narrow one
  abbrev pub only_wide : ℕ → Bool
  only_wide k = wide k && not (narrow k)

  -- Those that pass the narrow test, and those that pass only the wide one, add up to all that pass
  -- the wide one.
  pub length-only_wide : (n : ℕ) → length (passing only_wide n) + length (passing narrow n) ≡ length (passing wide n)
  length-only_wide zero = refl
  length-only_wide (suc n) =
      let before = length-only_wide n in
      elim (cases_Bool (narrow n)) [
        | inl a ↦
            let w = within n a in
            let o : only_wide n ≡ false = ap (λ b. wide n && not b) a ∙ ap (λ b. b && false) w in
            omega (arith, before, length-passing_yes narrow n (narrow n) a, length-passing_yes wide n (wide n) w, length-passing_no only_wide n (only_wide n) o)
        | inr a ↦
            elim (cases_Bool (wide n)) [
              | inl w ↦
                  let o : only_wide n ≡ true = ap (λ b. wide n && not b) a ∙ ap (λ b. b && true) w in
                  omega (
                    arith,
                    before,
                    length-passing_no narrow n (narrow n) a,
                    length-passing_yes wide n (wide n) w,
                    length-passing_yes only_wide n (only_wide n) o,
                  )
              | inr w ↦
                  let o : only_wide n ≡ false = ap (λ b. b && not (narrow n)) w in
                  omega (
                    arith,
                    before,
                    length-passing_no narrow n (narrow n) a,
                    length-passing_no wide n (wide n) w,
                    length-passing_no only_wide n (only_wide n) o,
                  )
            ]
      ]

-- ---- how many are gained

-- Different items have different images if the function keeps them apart.
pub different-map : {A B : Type 0} (f : A → B) (xs : List A) → AreDifferent xs
    → ((x y : A) → Contains xs x → Contains xs y → f x ≡ f y → x ≡ y) → AreDifferent (map f xs)
different-map f [] d one = tt
different-map f (x ∷ xs) d one = (
  λ c. let h = mapped f xs (f x) c in d.0 (subst (Contains xs) (one h.item x (contains_later x xs h.item h.has) (contains_first x xs) h.is) h.has),
  different-map f xs d.1 (λ a b ca cb e. one a b (contains_later x xs a ca) (contains_later x xs b cb) e),
)

-- The flags of fewer accepted documents, and those of more: the number of flags that are raised in
-- addition is that of the documents that are accepted in the one and not in the other.
module _ (none : Pair) (fewer more : Meaning) (some_pairs pairs : List Pair) (some_numbers numbers : List ℕ) (some_flags flags : List Bool)
    (here : ReportsMembers fewer some_pairs some_numbers some_flags) (there : ReportsMembers more pairs numbers flags)
    (kept : (n : ℕ) → is_raised some_flags n ≡ true → is_raised flags n ≡ true)
    (agree : (n : ℕ) (p : Pair) → is_raised flags n ≡ true → is_raised some_flags n ≡ true → slice_get some_pairs n ≡ Some p → slice_get pairs n ≡ Some p) where
  -- a number whose flag is raised has its pair
  raised-pair : (n : ℕ) → is_raised flags n ≡ true → (n < length flags) × (slice_get pairs n ≡ Some (get_or pairs n none))
  raised-pair n e =
      let l : n < length flags =
      elim (cases_lt n (length flags)) [ inl b ↦ b | inr b ↦ absurd (both_ways (is_raised flags n) (get_or_past flags n false b) e) ]
      in
      (l, slice_get-get_or pairs n none (omega (arith, l, there.size)))

  -- A flag that is raised only among the later ones is that of a document that is accepted only in
  -- the larger meaning.
  new-member : (n : ℕ) → is_raised flags n ≡ true → is_raised some_flags n ≡ false
      → IsMember more (get_or pairs n none) × (IsMember fewer (get_or pairs n none) → ⊥)
  new-member n e f =
      let at = raised-pair n e in (
        there.sound n (get_or pairs n none) e at.1,
        λ h.
            let g = here.all (get_or pairs n none) h in
            let is = there.once n g.0 (get_or pairs n none) (there.listed n e) (there.listed g.0 (kept g.0 g.1)) at.1
            (agree g.0 (get_or pairs n none) (kept g.0 g.1) g.1 g.2) in
            both_ways (is_raised some_flags n) f (ap (λ k. is_raised some_flags k) is ∙ g.1),
      )

  -- The rise of the number of raised flags is how many documents more are accepted: this is what a
  -- call reports as gained, and turned round as lost.
  pub gain-from_flags : (n : ℕ) → raised_count flags ≡ raised_count some_flags + n → length some_flags ≤ length flags
      → IsCount (λ (p : Pair). IsMember more p × (IsMember fewer p → ⊥)) n
  gain-from_flags n e sizes =
      let wide : ℕ → Bool = λ k. is_raised flags k in
      let narrow : ℕ → Bool = λ k. is_raised some_flags k in
      let list : List ℕ = passing (only_wide narrow wide kept) (length flags) in
      let parts : (k : ℕ) → Contains list k → (k < length flags) × (is_raised flags k ≡ true) × (is_raised some_flags k ≡ false) = λ k c.
      let h = passing-to (only_wide narrow wide kept) (length flags) k c in
      let g = and_parts (is_raised flags k) (not (is_raised some_flags k)) h.1 in
      (h.0, g.0, not-true (is_raised some_flags k) g.1)
      in
      record {
        items = map (λ k. get_or pairs k none) list;
        different = different-map (λ k. get_or pairs k none) list (passing-differ (only_wide narrow wide kept) (length flags)) (λ x y cx cy s.
            let a = parts x cx in
            let b = parts y cy in
            there.once x y (get_or pairs x none) (there.listed x a.1) (there.listed y b.1) (raised-pair x a.1).1
            ((raised-pair y b.1).1 ∙ ap (λ (p : Pair). Some p) (sym s)));
        exactly = λ p. (
          λ c.
              let h = mapped (λ k. get_or pairs k none) list p c in
              let a = parts h.item h.has in
              let m = new-member h.item a.1 a.2 in
              (subst (IsMember more) h.is m.0, λ f. m.1 (subst (IsMember fewer) (sym h.is) f)),
          λ h.
              let g = there.all p h.0 in
              let at = raised-pair g.0 g.1 in
              let off : is_raised some_flags g.0 ≡ false = false_from_ne_true (is_raised some_flags g.0) (λ t.
              let q = slice_get-get_or some_pairs g.0 none (omega (arith, some_within g.0 t, here.size)) in
              h.1 (subst (IsMember fewer)
              (same_Some (get_or some_pairs g.0 none) p
              (sym (agree g.0 (get_or some_pairs g.0 none) g.1 t q) ∙ g.2))
              (here.sound g.0 (get_or some_pairs g.0 none) t q)))
              in
              let c : Contains list g.0 =
              passing-from (only_wide narrow wide kept) (length flags) g.0 at.0
              (and_from (is_raised flags g.0) (not (is_raised some_flags g.0)) g.1
              (not_from_false (is_raised some_flags g.0) off)) in
              subst (Contains (map (λ k. get_or pairs k none) list)) (get_or_from_slice_get pairs g.0 p none g.2)
              (contains_map (λ k. get_or pairs k none) list g.0 c),
        );
        count = length-map list (λ k. get_or pairs k none)
            ∙ (let s : length list ≡ n =
            omega (
              arith,
              length-only_wide narrow wide kept (length flags),
              count-passing flags (length flags) (omega arith),
              count-passing some_flags (length flags) sizes,
              e,
            ) in
            s);
      }
    where
      some_within : (k : ℕ) → is_raised some_flags k ≡ true → k < length some_flags
      some_within k t = elim (cases_lt k (length some_flags))
          [ inl b ↦ b | inr b ↦ absurd (both_ways (is_raised some_flags k) (get_or_past some_flags k false b) t) ]

-- ---- fewer flags, and none

-- A test that nothing passes lists nothing.
passing-none : (test : ℕ → Bool) (n : ℕ) → ((k : ℕ) → test k ≡ false) → length (passing test n) ≡ 0
passing-none test zero h = refl
passing-none test (suc n) h = length-passing_no test n (test n) (h n) ∙ passing-none test n h

-- If no flag is raised the count is 0.
pub count-lowered : (flags : List Bool) → ((k : ℕ) → is_raised flags k ≡ false) → raised_count flags ≡ 0
count-lowered flags h = sym (count-passing flags (length flags) (omega arith)) ∙ passing-none (λ k. is_raised flags k) (length flags) h

-- If each flag that is raised here is raised there, the count here is not larger.
pub count-fewer : (fewer more : List Bool) → length fewer ≤ length more
    → ((k : ℕ) → is_raised fewer k ≡ true → is_raised more k ≡ true) → raised_count fewer ≤ raised_count more
count-fewer fewer more l h =
    omega (
      arith,
      length-only_wide (λ k. is_raised fewer k) (λ k. is_raised more k) h (length more),
      count-passing fewer (length more) l,
      count-passing more (length more) (omega arith),
    )
