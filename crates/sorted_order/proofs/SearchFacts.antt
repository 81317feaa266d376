-- From the edge in a block to the gap in the sequence
use Rattle.std.proofs.Common.{◌≡◌, ◌≢◌, inl, inr, ℕ, zero, suc, ◌+◌, ◌-◌, ◌<◌, ◌≤◌, List, [], ◌∷◌, length, take, drop}
use Rattle.std.proofs.Common.{slice_index, slice_index_or, slice_get, Some, None, refl, sym, ◌∙◌, ap, subst, arith}
use Rattle.std.proofs.Common.{cond, is_lt, true}
use Rattle.std.proofs.lemmas.Bool.{cases_lt}
use Rattle.std.proofs.lemmas.List.{get_or_default}
use Rattle.std.proofs.lemmas.Option.{slice_get_within, get_or_from_slice_get, slice_get-get_or}
use Rattle.std.specs.declared.cmp.Ordering.{Ordering}
use Rattle.std.specs.declared.cmp.Ordering.TheVariants.{Less, Equal, Greater}
use Rattle.std.specs.List.{All, concat, filter}
use Rattle.std.specs.Ordering.{ordering_index}
use Rattle.sorted_order.specs.Inside.Blocks.{AreFilled, block_at, length_before, IsBoundary, IsEdgeBlock}
use Rattle.sorted_order.specs.Sought.{IsRising, IsGap, IsFound, IsMissing, is_equal}
use Rattle.sorted_order.specs.Inside.Seeking.{IsFirstFound, past}
use Rattle.sorted_order.proofs.BlockFacts.{before_next, before_all, before_within, filled_at, concat-at}

-- What holds of all numbers holds of those of a block.
pub All-block : (P : ℕ → Type 0) (bs : List (List ℕ)) (i : ℕ) → i < length bs → All P (concat bs) → All P (block_at bs i)
All-block P bs i l all = λ k d h.
    let within : length_before bs i + k < length (concat bs) = omega (arith, before_next bs i l, before_within bs (suc i)) in
    let same : slice_index_or (concat bs) (length_before bs i + k) 0 ≡ slice_index_or (block_at bs i) k d =
    concat-at bs i k (length_before bs i + k) l h refl ∙ get_or_default (block_at bs i) k 0 d h in
    subst P same (all (length_before bs i + k) 0 within)

-- The number just before the edge comes before what is sought, also if it is in the block before.
edge_before : (compared : ℕ → Ordering) (bs : List (List ℕ)) (i w : ℕ) → AreFilled bs → IsEdgeBlock compared bs i
    → IsBoundary compared (block_at bs i) w → 0 < length_before bs i + w → compared (slice_index (concat bs) (length_before bs i + w - 1)) ≡ Less
edge_before compared bs zero zero filled block edge p = absurd (omega arith)
edge_before compared bs (suc i) zero filled block edge p =
    let some = filled_at bs (suc i) (omega arith) block.within filled in
    absurd (edge.after (omega (arith, some)) (block.before (omega arith)))
edge_before compared bs i (suc w) filled block edge p =
    let last : length_before bs i + w ≡ length_before bs i + suc w - 1 = omega arith in
    let here : suc w - 1 ≡ w = omega arith in
    let less : compared (slice_index (block_at bs i) w) ≡ Less =
    subst (λ n. compared (slice_index (block_at bs i) n) ≡ Less) here (edge.before (omega arith)) in
    rw (concat-at bs i w (length_before bs i + suc w - 1) block.within (omega (arith, edge.within)) last) less

-- The number at the edge does not come before what is sought, also if it is in the next block.
edge_after : (compared : ℕ → Ordering) (bs : List (List ℕ)) (i w : ℕ) → AreFilled bs → IsEdgeBlock compared bs i
    → IsBoundary compared (block_at bs i) w → length_before bs i + w < length (concat bs) → compared (slice_index (concat bs) (length_before bs i + w)) ≢ Less
edge_after compared bs i w filled block edge p =
    elim (cases_lt w (length (block_at bs i))) [
      | inl here ↦ rw (concat-at bs i w (length_before bs i + w) block.within here refl) (edge.after here)
      | inr past ↦
          elim (cases_lt (suc i) (length bs)) [
            | inl next ↦
                let some = filled_at bs (suc i) (omega arith) next filled in
                let at : length_before bs (suc i) + 0 ≡ length_before bs i + w = omega (arith, before_next bs i block.within, edge.within) in
                let one : i + 1 ≡ suc i = omega arith in
                let not_less : compared (slice_index (block_at bs (suc i)) 0) ≢ Less =
                subst (λ n. compared (slice_index (block_at bs n) 0) ≢ Less) one (block.after (omega arith)) in
                rw (concat-at bs (suc i) 0 (length_before bs i + w) next (omega (arith, some)) at) not_less
            | inr end ↦ absurd (omega (arith, before_next bs i block.within, before_all bs (suc i) end, edge.within))
          ]
    ]

-- The edge in the edge block is the edge in the sequence.
pub edge_of_block : (compared : ℕ → Ordering) (bs : List (List ℕ)) (i w : ℕ) → AreFilled bs → IsEdgeBlock compared bs i
    → IsBoundary compared (block_at bs i) w → IsBoundary compared (concat bs) (length_before bs i + w)
edge_of_block compared bs i w filled block edge = record {
  within = omega (arith, edge.within, before_next bs i block.within, before_within bs (suc i));
  before = edge_before compared bs i w filled block edge;
  after = edge_after compared bs i w filled block edge;
}

-- What is tested to be `Less` is.
pub less_of : (o : Ordering) → is_lt o ≡ true → o ≡ Less
less_of Less e = refl
less_of Equal e = absurd (cc)
less_of Greater e = absurd (cc)

-- If the last number of the last block comes before what is sought, the end is the edge.
pub edge_of_end : (compared : ℕ → Ordering) (bs : List (List ℕ)) (i w : ℕ) → i < length bs → length bs ≤ suc i
    → w ≡ length (block_at bs i) → 0 < w → compared (slice_index (block_at bs i) (w - 1)) ≡ Less
    → IsBoundary compared (concat bs) (length_before bs i + w)
edge_of_end compared bs i w here end whole some less =
    let last : length_before bs i + (w - 1) ≡ length_before bs i + w - 1 = omega (arith, some) in
    record {
      within = omega (arith, whole, before_next bs i here, before_within bs (suc i));
      before = λ p. rw (concat-at bs i (w - 1) (length_before bs i + w - 1) here (omega (arith, whole, some)) last) less;
      after = λ p. absurd (omega (arith, whole, before_next bs i here, before_all bs (suc i) end, p));
    }

-- A place is the edge if the number just before it, which is in its block, comes before what is
-- sought, and the number there does not.
pub edge_next : (compared : ℕ → Ordering) (bs : List (List ℕ)) (i w : ℕ) → i < length bs → w ≤ length (block_at bs i)
    → (0 < w → compared (slice_index (block_at bs i) (w - 1)) ≡ Less) → (w ≡ 0 → i ≡ 0)
    → ((number : ℕ) → slice_get (concat bs) (length_before bs i + w) ≡ Some number → compared number ≢ Less)
    → IsBoundary compared (concat bs) (length_before bs i + w)
edge_next compared bs i w here within before start after = record {
  within = omega (arith, within, before_next bs i here, before_within bs (suc i));
  before = λ p. elim (cases_lt 0 w) [
    | inl some ↦
        let last : length_before bs i + (w - 1) ≡ length_before bs i + w - 1 = omega (arith, some) in
        rw (concat-at bs i (w - 1) (length_before bs i + w - 1) here (omega (arith, within, some)) last) (before some)
    | inr none ↦
        let first : w ≡ 0 = omega (arith, none) in
        let none_before : length_before bs i ≡ length_before bs 0 = ap (length_before bs) (start first) in
        let empty : length_before bs 0 ≡ 0 = refl in
        absurd (omega (arith, first, none_before, empty, p))
  ];
  after = λ p. after (slice_index (concat bs) (length_before bs i + w)) (slice_get-get_or (concat bs) (length_before bs i + w) 0 p);
}

-- An index of 0 means `Less`: with `index_zero`, comparisons turn into numbers and back.
index_of_less : (o : Ordering) → ordering_index o ≤ 0 → o ≡ Less
index_of_less Less h = refl
index_of_less Equal h = absurd (omega arith)
index_of_less Greater h = absurd (omega arith)

-- `Less` has an index of at most 0.
index_zero : (o : Ordering) → o ≡ Less → ordering_index o ≤ 0
index_zero o e = rw e (omega arith)

-- In a sorted list the edge is the gap: all numbers before it come before what is sought, and none
-- after it does.
pub gap_of_edge : (compared : ℕ → Ordering) (numbers : List ℕ) (place : ℕ) → IsRising compared numbers
    → IsBoundary compared numbers place → IsGap compared numbers place
gap_of_edge compared numbers place rises edge = record {
  within = edge.within;
  before = λ k d z h.
      let last : place - 1 < length numbers = let w : place ≤ length numbers = edge.within in omega arith in
      let first : compared (slice_index_or numbers (place - 1) d) ≡ Less =
      subst (λ n. compared n ≡ Less) (get_or_default numbers (place - 1) 0 d last) (edge.before (omega arith)) in
      let low : ordering_index (compared (slice_index_or numbers k d)) ≤ ordering_index (compared (slice_index_or numbers (place - 1) d)) =
      rises.rising k (place - 1) d (omega arith) last in
      let none : ordering_index (compared (slice_index_or numbers (place - 1) d)) ≤ 0 = index_zero _ first in
      index_of_less (compared (slice_index_or numbers k d)) (omega arith);
  after = λ k d h l e.
      let here : place < length numbers = omega arith in
      let low : ordering_index (compared (slice_index_or numbers place d)) ≤ ordering_index (compared (slice_index_or numbers k d)) =
      rises.rising place k d h l in
      let none : ordering_index (compared (slice_index_or numbers k d)) ≤ 0 = index_zero _ e in
      let less : compared (slice_index_or numbers place d) ≡ Less = index_of_less (compared (slice_index_or numbers place d)) (omega arith) in
      edge.after here (subst (λ n. compared n ≡ Less) (get_or_default numbers place d 0 here) less);
}

-- The gap as `seek` returns it, from the edge in the lent blocks.
pub gap_from : (compared : ℕ → Ordering) (bs lent : List (List ℕ)) (items : List ℕ) (block place before : ℕ) → lent ≡ bs
    → concat bs ≡ items → before ≡ length_before lent block → IsRising compared items
    → IsBoundary compared (concat lent) (length_before lent block + place) → IsGap compared items (before + place)
gap_from compared bs lent items block place before same whole e rises edge =
    let here : IsBoundary compared items (before + place) = rw (e, ← whole, ← same) edge in
    gap_of_edge compared items (before + place) rises here

-- ---- what is at the gap, and after it

-- What is neither before what is sought nor equal to it is after it, in indices.
greater_at : (o : Ordering) → o ≢ Less → o ≢ Equal → 2 ≤ ordering_index o
greater_at Less l e = absurd (l refl)
greater_at Equal l e = absurd (e refl)
greater_at Greater l e = omega arith

-- An index of at least 2 means `Greater`.
greater_from : (o : Ordering) → 2 ≤ ordering_index o → o ≡ Greater
greater_from Less h = absurd (omega arith)
greater_from Equal h = absurd (omega arith)
greater_from Greater h = refl

-- If an item at the gap is not equal, what is sought is missing.
pub missing_else : {X : Type 0} (compared : X → Ordering) (items : List X) (place : ℕ) (item : X) → IsRising compared items
    → IsGap compared items place → slice_get items place ≡ Some item → compared item ≢ Equal → IsMissing compared items place
missing_else compared items place item rises gap at other = record {
  within = gap.within;
  before = gap.before;
  after = λ k d h l.
      let here : place < length items = slice_get_within items place item at in
      let there : slice_index_or items place d ≡ item = get_or_from_slice_get items place item d at in
      let not_less : compared (slice_index_or items place d) ≢ Less = gap.after place d (omega arith) here in
      let not_equal : compared (slice_index_or items place d) ≢ Equal = λ e. other (ap compared (sym there) ∙ e) in
      let least = greater_at (compared (slice_index_or items place d)) not_less not_equal in
      let more : ordering_index (compared (slice_index_or items place d)) ≤ ordering_index (compared (slice_index_or items k d)) = rises.rising place k d h l in
      greater_from (compared (slice_index_or items k d)) (omega (arith, least, more));
}

-- If the gap is the end, what is sought is missing.
pub missing_none : {X : Type 0} (compared : X → Ordering) (items : List X) (place : ℕ) → IsGap compared items place
    → slice_get items place ≡ None → IsMissing compared items place
missing_none compared items place gap none = record {
  within = gap.within;
  before = gap.before;
  after = λ k d h l.
      let there : slice_get items place ≡ Some (slice_index_or items place d) = slice_get-get_or items place d (omega arith) in
      absurd (cc);
}

-- If nothing at the gap is equal, what is sought is missing.
pub missing_unless : {X : Type 0} (compared : X → Ordering) (items : List X) (place : ℕ)
    → IsRising compared items
    → IsGap compared items place → ((item : X) → slice_get items place ≡ Some item
    → compared item ≢ Equal) → IsMissing compared items place
missing_unless compared items place rises gap other = record {
  within = gap.within;
  before = gap.before;
  after = λ k d h l.
      let there : slice_get items place ≡ Some (slice_index_or items place d) = slice_get-get_or items place d (omega arith) in
      let not_equal = other (slice_index_or items place d) there in
      (missing_else compared items place (slice_index_or items place d) rises gap there not_equal).after k d h l;
}

-- If the item at the gap is equal, it is the first one found.
pub found_at : {X : Type 0} (compared : X → Ordering) (items : List X) (place : ℕ) (item : X) → IsGap compared items place
    → slice_get items place ≡ Some item → compared item ≡ Equal → IsFound compared items place
found_at compared items place item gap at equal = record {
  within = slice_get_within items place item at;
  before = gap.before;
  here = λ d. ap compared (get_or_from_slice_get items place item d at) ∙ equal;
}

-- If the number at the edge in the blocks is equal, it is the first one found in the sequence.
pub found_from : (compared : ℕ
    → Ordering) (bs lent : List (List ℕ)) (items : List ℕ) (block place number : ℕ) → lent ≡ bs
    → concat bs ≡ items → IsRising compared items
    → IsBoundary compared (concat lent) (length_before lent block + place)
    → slice_get (concat lent) (length_before lent block + place) ≡ Some number
    → compared number ≡ Equal → IsFirstFound compared items number
found_from compared bs lent items block place number same whole rises edge at equal =
    let gap = gap_from compared bs lent items block place (length_before lent block) same whole refl rises edge in
    let numbers : concat lent ≡ items = ap concat same ∙ whole in
    let there : slice_get items (length_before lent block + place) ≡ Some number = rw numbers at at in
    record {
      place = length_before lent block + place;
      found = found_at compared items (length_before lent block + place) number gap there equal;
      numbered = get_or_from_slice_get items (length_before lent block + place) number 0 there;
    }

-- If the number at the edge is not equal, what is sought is missing in the sequence.
pub missing_from : (compared : ℕ
    → Ordering) (bs lent : List (List ℕ)) (items : List ℕ) (block place before : ℕ) → lent ≡ bs
    → concat bs ≡ items → before ≡ length_before lent block → IsRising compared items
    → IsBoundary compared (concat lent) (length_before lent block + place)
    → ((number : ℕ) → slice_get (concat lent) (length_before lent block + place) ≡ Some number
    → compared number ≢ Equal)
    → IsMissing compared items (before + place)
missing_from compared bs lent items block place before same whole e rises edge other =
    let gap = gap_from compared bs lent items block place before same whole e rises edge in
    let numbers : items ≡ concat lent = sym (ap concat same ∙ whole) in
    missing_unless compared items (before + place) rises gap
    (λ number at. other number (ap (λ k. slice_get (concat lent) (k + place)) (sym e)
    ∙ ap (λ xs. slice_get xs (before + place)) (sym numbers) ∙ at))

-- ---- the place just past what is sought

-- To seek the place just past keeps the order of any two comparisons.
past_keeps : (a b : Ordering) → ordering_index a ≤ ordering_index b → ordering_index (past a) ≤ ordering_index (past b)
past_keeps Less Less h = omega arith
past_keeps Less Equal h = omega arith
past_keeps Less Greater h = omega arith
past_keeps Equal Less h = omega arith
past_keeps Equal Equal h = omega arith
past_keeps Equal Greater h = omega arith
past_keeps Greater Less h = absurd (omega arith)
past_keeps Greater Equal h = absurd (omega arith)
past_keeps Greater Greater h = omega arith

-- What is sorted for what is sought is so for the place just past it: a second search finds the
-- end.
pub past_rises : {X : Type 0} (compared : X → Ordering) (items : List X) → IsRising compared items
    → IsRising (λ x. past (compared x)) items
past_rises compared items rises = record {
  rising = λ i j d h l.
      past_keeps (compared (slice_index_or items i d)) (compared (slice_index_or items j d)) (rises.rising i j d h l);
}

-- What comes before what is sought comes before the place just past it.
past_less : (o : Ordering) → o ≡ Less → past o ≡ Less
past_less o e = rw e refl

-- ---- what a gap in a list says of the rest

-- A gap after the first item is a gap of the rest, one earlier.
gap_rest : {X : Type 0} (compared : X → Ordering) (x : X) (xs : List X) (p : ℕ) → IsGap compared (x ∷ xs) (suc p) → IsGap compared xs p
gap_rest compared x xs p gap = record {
  within = let w : suc p ≤ suc (length xs) = gap.within in omega arith;
  before = λ k d z h. gap.before (suc k) d (omega arith) (omega arith);
  after = λ k d h l. gap.after (suc k) d (omega arith) (omega arith);
}

-- A gap before the first item is one before the rest.
gap_none : {X : Type 0} (compared : X → Ordering) (x : X) (xs : List X) → IsGap compared (x ∷ xs) 0 → IsGap compared xs 0
gap_none compared x xs gap = record {
  within = omega arith;
  before = λ k d z h. absurd (omega arith);
  after = λ k d h l. gap.after (suc k) d (omega arith) (omega arith);
}

-- What is not before what is sought, and before the place just past it, is equal and is kept.
equal_keeps : {X : Type 0} (o : Ordering) (x : X) (xs ys : List X) → o ≢ Less → past o ≡ Less → xs ≡ ys → cond (is_equal o) (x ∷ xs) xs ≡ x ∷ ys
equal_keeps Less x xs ys l p e = absurd (l refl)
equal_keeps Equal x xs ys l p e = ap (λ rest. x ∷ rest) e
equal_keeps Greater x xs ys l p e = absurd (cc)

-- What comes before what is sought is not kept.
less_drops : {X : Type 0} (o : Ordering) (x : X) (xs ys : List X) → o ≡ Less → xs ≡ ys → cond (is_equal o) (x ∷ xs) xs ≡ ys
less_drops Less x xs ys l e = e
less_drops Equal x xs ys l e = absurd (cc)
less_drops Greater x xs ys l e = absurd (cc)

-- What comes after what is sought is not kept.
greater_drops : {X : Type 0} (o : Ordering) (x : X) (xs ys : List X) → past o ≢ Less → xs ≡ ys → cond (is_equal o) (x ∷ xs) xs ≡ ys
greater_drops Less x xs ys l e = absurd (l refl)
greater_drops Equal x xs ys l e = absurd (l refl)
greater_drops Greater x xs ys l e = e

-- The equal items are those from the first gap to the one just past: `matching` lends that stretch.
pub matching_is : {X : Type 0} (compared : X → Ordering) (xs : List X) (first end : ℕ) → IsGap compared xs first
    → IsGap (λ x. past (compared x)) xs end → filter (λ x. is_equal (compared x)) xs ≡ take (end - first) (drop first xs)
matching_is compared [] zero zero gap past_gap = refl
matching_is compared [] zero (suc end) gap past_gap = let w : suc end ≤ 0 = past_gap.within in absurd (omega arith)
matching_is compared [] (suc first) end gap past_gap = let w : suc first ≤ 0 = gap.within in absurd (omega arith)
matching_is compared (x ∷ xs) zero zero gap past_gap =
    greater_drops (compared x) x (filter (λ y. is_equal (compared y)) xs) [] (past_gap.after 0 x (omega arith) (omega arith))
    (matching_is compared xs 0 0 (gap_none compared x xs gap) (gap_none (λ y. past (compared y)) x xs past_gap))
matching_is compared (x ∷ xs) zero (suc end) gap past_gap =
    let all : suc end - 0 ≡ suc end = omega arith in
    let rest : end - 0 ≡ end = omega arith in
    let later : filter (λ y. is_equal (compared y)) xs ≡ take (end - 0) xs =
    matching_is compared xs 0 end (gap_none compared x xs gap) (gap_rest (λ y. past (compared y)) x xs end past_gap) in
    rw all (equal_keeps (compared x) x (filter (λ y. is_equal (compared y)) xs) (take end xs)
    (gap.after 0 x (omega arith) (omega arith)) (past_gap.before 0 x (omega arith) (omega arith)) (rw rest at later))
matching_is compared (x ∷ xs) (suc first) zero gap past_gap =
    absurd (past_gap.after 0 x (omega arith) (omega arith) (past_less (compared x) (gap.before 0 x (omega arith) (omega arith))))
matching_is compared (x ∷ xs) (suc first) (suc end) gap past_gap =
    let less : suc end - suc first ≡ end - first = omega arith in
    rw less (less_drops (compared x) x (filter (λ y. is_equal (compared y)) xs) (take (end - first) (drop first xs))
    (gap.before 0 x (omega arith) (omega arith))
    (matching_is compared xs first end (gap_rest compared x xs first gap) (gap_rest (λ y. past (compared y)) x xs end past_gap)))
