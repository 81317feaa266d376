-- Counts over the numbers below a bound
use Rattle.std.proofs.Common.{◌≡◌, ◌≢◌, ℕ, zero, suc, ◌+◌, ◌-◌, ◌<◌, ◌≤◌, inl, inr, Bool, true, false, List, length}
use Rattle.std.proofs.Common.{get_or, take, count_by, arith, refl, sym, ap, ◌∙◌, add-one, add-zero, add-suc}
use Rattle.std.proofs.lemmas.Bool.{cases_Bool, cases_eq}
use Rattle.std.proofs.lemmas.List.{take_all}
use Rattle.std.proofs.lemmas.List.Sums.{count_by_more_yes, count_by_more_no}
use Rattle.wait_index.specs.Inside.Count.{bit, count_below}

-- A number adds at most 1 to a count.
pub bit-le : (b : Bool) → bit b ≤ 1
bit-le true = omega arith
bit-le false = omega arith

-- A number that passes adds 1.
pub bit-true : (b : Bool) → b ≡ true → bit b ≡ 1
bit-true b h = ap bit h

-- A number that fails adds nothing.
pub bit-false : (b : Bool) → b ≡ false → bit b ≡ 0
bit-false b h = ap bit h

-- One number more adds 1 if it passes.
pub count_below-more : (p : ℕ → Bool) (n : ℕ) → count_below p (n + 1) ≡ count_below p n + bit (p n)
count_below-more p n = rw add-one

-- No more numbers pass than there are.
pub count_below-le : (p : ℕ → Bool) (n : ℕ) → count_below p n ≤ n
count_below-le p zero = omega arith
count_below-le p (suc n) = omega (arith, count_below-le p n, bit-le (p n))

-- If a test is split into two that never both pass, their counts add up to its count.
pub count_below-add : (p q r : ℕ → Bool) (n : ℕ) → ((k : ℕ) → k < n → bit (p k) ≡ bit (q k) + bit (r k)) → count_below p n ≡ count_below q n + count_below r n
count_below-add p q r zero h = omega arith
count_below-add p q r (suc n) h = omega (arith, count_below-add p q r n (λ k l. h k (omega arith)), h n (omega arith))

-- Tests that agree below the bound have one count.
pub count_below-same : (p q : ℕ → Bool) (n : ℕ) → ((k : ℕ) → k < n → p k ≡ q k) → count_below p n ≡ count_below q n
count_below-same p q zero h = refl
count_below-same p q (suc n) h = omega (arith, count_below-same p q n (λ k l. h k (omega arith)), ap bit (h n (omega arith)))

-- A test that passes more counts no less.
pub count_below-mono : (p q : ℕ → Bool) (n : ℕ) → ((k : ℕ) → k < n → p k ≡ true → q k ≡ true) → count_below p n ≤ count_below q n
count_below-mono p q zero h = omega arith
count_below-mono p q (suc n) h =
    let below = count_below-mono p q n (λ k l. h k (omega arith)) in
    elim (cases_Bool (p n)) [
      | inl e ↦ omega (arith, below, bit-true (q n) (h n (omega arith) e), bit-le (p n))
      | inr e ↦ omega (arith, below, bit-false (p n) e)
    ]

-- The same as `count_below-gap`, by the distance of the two bounds.
gap_add : (p : ℕ → Bool) (m d : ℕ) → ((k : ℕ) → m ≤ k → k < m + d → p k ≡ false) → count_below p (m + d) ≡ count_below p m
gap_add p m zero h = rw add-zero
gap_add p m (suc d) h =
    let here : bit (p (m + d)) ≡ 0 = bit-false (p (m + d)) (h (m + d) (omega arith) (omega arith)) in
    let below = gap_add p m d (λ k l u. h k l (omega arith)) in
    rw add-suc (omega (arith, here, below))

-- numbers that fail the test add nothing
pub count_below-gap : (p : ℕ → Bool) (m n : ℕ) → m ≤ n → ((k : ℕ) → m ≤ k → k < n → p k ≡ false) → count_below p n ≡ count_below p m
count_below-gap p m n l h =
    let e : n ≡ m + (n - m) = omega arith in
    ap (count_below p) e ∙ gap_add p m (n - m) (λ k a b. h k a (omega arith))

-- If one number passes that failed, the count is one more.
pub count_below-change : (p q : ℕ → Bool) (i n : ℕ) → i < n → p i ≡ false → q i ≡ true
    → ((k : ℕ) → k < n → k ≢ i → p k ≡ q k) → count_below q n ≡ count_below p n + 1
count_below-change p q i zero l a b h = absurd (omega arith)
count_below-change p q i (suc n) l a b h =
    elim (cases_eq i n) [
      | inl e ↦
          let below = count_below-same p q n (λ k u. h k (omega arith) (omega arith)) in
          omega (arith, below, bit-false (p n) (ap p (sym e) ∙ a), bit-true (q n) (ap q (sym e) ∙ b))
      | inr e ↦
          let below = count_below-change p q i n (omega arith) a b (λ k u. h k (omega arith)) in
          omega (arith, below, ap bit (h n (omega arith) (λ f. e (sym f))))
    ]

-- If the count is not 0, some number passes.
pub count_below-some : (p : ℕ → Bool) (n : ℕ) → 0 < count_below p n → (k : ℕ) × (k < n) × (p k ≡ true)
count_below-some p zero h = absurd (omega arith)
count_below-some p (suc n) h =
    elim (cases_Bool (p n)) [
      | inl e ↦ (n, omega arith, e)
      | inr e ↦
          let below = count_below-some p n (omega (arith, bit-false (p n) e)) in
          (below.0, omega (arith, below.1), below.2)
    ]

-- If a number passes, the count is not 0.
pub count_below-at : (p : ℕ → Bool) (i n : ℕ) → i < n → p i ≡ true → 0 < count_below p n
count_below-at p i zero l e = absurd (omega arith)
count_below-at p i (suc n) l e =
    elim (cases_eq i n) [
      | inl s ↦ omega (arith, bit-true (p n) (ap p (sym s) ∙ e))
      | inr s ↦ omega (arith, count_below-at p i n (omega arith) e)
    ]

-- If a number fails, the count is below the bound.
pub count_below-less : (p : ℕ → Bool) (i n : ℕ) → i < n → p i ≡ false → count_below p n < n
count_below-less p i zero l e = absurd (omega arith)
count_below-less p i (suc n) l e =
    elim (cases_eq i n) [
      | inl s ↦ omega (arith, bit-false (p n) (ap p (sym s) ∙ e), count_below-le p n)
      | inr s ↦ omega (arith, count_below-less p i n (omega arith) e, bit-le (p n))
    ]

-- a count over a list is one over the places
count_by_front : {X : Type 0} (p : X → Bool) (xs : List X) (d : X) (n : ℕ) → n ≤ length xs → count_by p (take n xs) ≡ count_below (λ i. p (get_or xs i d)) n
count_by_front p xs d zero l = refl
count_by_front p xs d (suc n) l =
    let below = count_by_front p xs d n (omega arith) in
    let next : suc n ≡ n + 1 = omega arith in
    let more : count_by p (take (n + 1) xs) ≡ count_below (λ i. p (get_or xs i d)) n + bit (p (get_or xs n d)) =
    elim (cases_Bool (p (get_or xs n d))) [
      | inl e ↦ omega (arith, below, count_by_more_yes p xs n d (omega arith) e, bit-true (p (get_or xs n d)) e)
      | inr e ↦ omega (arith, below, count_by_more_no p xs n d (omega arith) e, bit-false (p (get_or xs n d)) e)
    ]
    in
    ap (λ m. count_by p (take m xs)) next ∙ more

-- A count over a whole list is one over its places: definitions count over lists, invariants over
-- places.
pub count_by-count_below : {X : Type 0} (p : X → Bool) (xs : List X) (d : X) → count_by p xs ≡ count_below (λ i. p (get_or xs i d)) (length xs)
count_by-count_below p xs d =
    ap (count_by p) (sym (take_all (length xs) xs (omega arith))) ∙ count_by_front p xs d (length xs) (omega arith)
