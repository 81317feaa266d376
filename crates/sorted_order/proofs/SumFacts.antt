-- Sums of groups of blocks: what they add up to, and what an insertion changes in them
use Rattle.std.proofs.Common.{◌≡◌, ◌≢◌, inl, inr, ℕ, zero, suc, ◌+◌, ◌-◌, ◌*◌, ◌/◌, ◌<◌, ◌≤◌, List, [], ◌∷◌, length}
use Rattle.std.proofs.Common.{take, drop, min, slice_index, slice_set, refl, sym, ◌∙◌, ap, arith, length-append}
use Rattle.std.proofs.Common.{length-drop}
use Rattle.std.proofs.lemmas.Bool.{cases_lt}
use Rattle.std.proofs.lemmas.List.{take_all, take_rest, take-set-le, length-set, get_or-set_same, get_or-set_other, get_or-drop, drop-drop}
use Rattle.std.proofs.lemmas.List.Edits.{length-insert}
use Rattle.std.proofs.lemmas.List.Sums.{sum_by_more}
use Rattle.std.proofs.Math.ListN.{drop_of_length-le}
use Rattle.std.specs.List.{concat, insert, sum}
use Rattle.sorted_order.specs.Inside.Blocks.{AreSums, block_at, length_before, put, IsSpot}
use Rattle.sorted_order.proofs.BlockFacts.{before_all, before_within, length-put}

-- ---- what the sums up to a place add up to

-- One sum more adds its own number.
pub sum_next : (xs : List ℕ) (i : ℕ) → i < length xs
    → sum (take (i + 1) xs) ≡ sum (take i xs) + slice_index xs i
sum_next xs i h = sum_by_more (λ x. x) xs i 0 h

-- The same with the successor instead of `+ 1`, as the definitions have it.
sum_suc : (xs : List ℕ) (i : ℕ) → i < length xs
    → sum (take (suc i) xs) ≡ sum (take i xs) + slice_index xs i
sum_suc xs i h = let e : suc i ≡ i + 1 = omega arith in ap (λ k. sum (take k xs)) e
    ∙ sum_next xs i h

-- Past the end nothing more is added.
pub sum_all : (xs : List ℕ) (i : ℕ) → length xs ≤ i → sum (take i xs) ≡ sum xs
sum_all xs i h = ap sum (take_all i xs h)

-- ---- the numbers before a block, by those before an earlier one

-- Without blocks nothing comes before any place.
none_before : (i : ℕ) → length_before [] i ≡ 0
none_before zero = refl
none_before (suc i) = refl

-- What comes before a later block comes before an earlier one or is in the blocks between.
before_sum : (bs : List (List ℕ)) (i j k : ℕ) → i + j ≡ k
    → length_before bs k ≡ length_before bs i + length_before (drop i bs) j
before_sum bs zero j k e =
    let same : k ≡ j = omega (arith, e) in
    let here : length_before (drop 0 bs) j ≡ length_before bs j = refl in
    let none : length_before bs 0 ≡ 0 = refl in
    omega (arith, ap (λ n. length_before bs n) same, here, none)
before_sum [] (suc i) j k e =
    let none : drop {A = List ℕ} (suc i) [] ≡ [] = refl in
    omega (
      arith,
      none_before k,
      none_before (suc i),
      none_before j,
      ap (λ xs. length_before xs j) none,
    )
before_sum (b ∷ bs) (suc i) j zero e = absurd (omega (arith, e))
before_sum (b ∷ bs) (suc i) j (suc k) e =
    let rest : length_before (drop (suc i) (b ∷ bs)) j ≡ length_before (drop i bs) j = refl in
    omega (
      arith,
      before_sum bs i j k (omega (arith, e)),
      rest,
      length-append b (concat (take i bs)),
      length-append b (concat (take k bs)),
    )

-- The same with the sum of both places in the statement.
before_from : (bs : List (List ℕ)) (i j : ℕ)
    → length_before bs (i + j) ≡ length_before bs i + length_before (drop i bs) j
before_from bs i j = before_sum bs i j (i + j) refl

-- What comes before a place and what comes from it on is everything.
before_after : (bs : List (List ℕ)) (i : ℕ)
    → length_before bs i + length (concat (drop i bs)) ≡ length (concat bs)
before_after bs i =
    omega (
      arith,
      before_from bs i (length bs),
      before_all bs (i + length bs) (omega arith),
      before_all (drop i bs) (length bs) (omega (arith, length-drop i bs)),
    )

-- The sums of the groups before a block's group, and the numbers of the blocks before it in that.
pub before_block : (xs : List ℕ) (bs : List (List ℕ)) (block : ℕ) → AreSums xs bs
    → block ≤ length bs
    → sum (take (block / 64) xs)
    + length (concat (take (block - block / 64 * 64) (drop (block / 64 * 64) bs))) ≡ length_before bs block
before_block xs bs block h l =
    let first = block / 64 * 64 in
    let here : 64 * (block / 64) ≡ first = omega arith in
    let all : first + (block - first) ≡ block = omega arith in
    omega (
      arith,
      h.each (block / 64) (omega (arith, h.all)),
      ap (λ k. length_before bs k) here,
      before_from bs first (block - first),
      ap (λ k. length_before bs k) all,
    )

-- ---- the place in a group, by the blocks from that on

-- The place left to find within a group lies within the blocks from that group on.
pub rest_within : (xs : List ℕ) (bs : List (List ℕ)) (at g rest : ℕ) → AreSums xs bs
    → g < length xs → sum (take g xs) + rest ≡ at
    → at ≤ length (concat bs)
    → rest ≤ length (concat (take (length bs - g * 64) (drop (g * 64) bs)))
rest_within xs bs at g rest h l whole within =
    let here : 64 * g ≡ g * 64 = omega arith in
    rw (take_rest bs (g * 64)) (omega (
      arith,
      h.each g (omega arith),
      ap (λ k. length_before bs k) here,
      before_after bs (g * 64),
    ))

-- A place found among the blocks from a group on is one of the whole directory.
pub spot_among : (xs : List ℕ) (bs : List (List ℕ)) (at g rest i w : ℕ) → AreSums xs bs
    → g < length xs → sum (take g xs) + rest ≡ at
    → IsSpot (take (length bs - g * 64) (drop (g * 64) bs)) rest i w → IsSpot bs at (g * 64 + i) w
spot_among xs bs at g rest i w h l whole spot =
    let here : 64 * g ≡ g * 64 = omega arith in
    let there : IsSpot (drop (g * 64) bs) rest i w = rw (take_rest bs (g * 64)) at spot in
    record {
      listed = omega (arith, there.listed, length-drop (g * 64) bs);
      within = let same = get_or-drop (g * 64) bs i [] in omega (
        arith,
        there.within,
        ap length same,
      );
      whole = omega (
        arith,
        there.whole,
        before_from bs (g * 64) i,
        h.each g (omega arith),
        ap (λ k. length_before bs k) here,
      );
    }

-- ---- one more number in a block is one more before each later block

-- Nothing changes before the block, nor before those ahead of it.
before_put_low : (bs : List (List ℕ)) (i w n k : ℕ) → k ≤ i
    → length_before (put bs i w n) k ≡ length_before bs k
before_put_low [] i w n k l = refl
before_put_low (b ∷ bs) zero w n zero l = refl
before_put_low (b ∷ bs) zero w n (suc k) l = absurd (omega arith)
before_put_low (b ∷ bs) (suc i) w n zero l = refl
before_put_low (b ∷ bs) (suc i) w n (suc k) l =
    omega (
      arith,
      before_put_low bs i w n k (omega arith),
      length-append b (concat (take k bs)),
      length-append b (concat (take k (put bs i w n))),
    )

-- Before each later block comes one number more.
before_put_high : (bs : List (List ℕ)) (i w n k : ℕ) → i < k → i < length bs
    → w ≤ length (block_at bs i)
    → length_before (put bs i w n) k ≡ length_before bs k + 1
before_put_high [] i w n k l h f = absurd (omega arith)
before_put_high (b ∷ bs) i w n zero l h f = absurd (omega arith)
before_put_high (b ∷ bs) zero w n (suc k) l h f =
    omega (
      arith,
      length-insert b w n f,
      length-append (insert b w n) (concat (take k bs)),
      length-append b (concat (take k bs)),
    )
before_put_high (b ∷ bs) (suc i) w n (suc k) l h f =
    omega (
      arith,
      before_put_high bs i w n k (omega arith) (omega arith) f,
      length-append b (concat (take k bs)),
      length-append b (concat (take k (put bs i w n))),
    )

-- ---- a sum raised by one is one more in what it adds up to with the sums around it

-- Sums up to the raised one add up as before.
raised_low : (xs : List ℕ) (g y k : ℕ) → k ≤ g → sum (take k (slice_set xs g y)) ≡ sum (take k xs)
raised_low xs g y k l = ap sum (take-set-le k xs g y l)

-- With the raised one they add up to one more.
raised_high : (xs : List ℕ) (g y k : ℕ) → g < length xs → y ≡ slice_index xs g + 1 → g < k
    → k ≤ length xs
    → sum (take k (slice_set xs g y)) ≡ sum (take k xs) + 1
raised_high xs g y zero l e p h = absurd (omega arith)
raised_high xs g y (suc k) l e p h =
    let listed : k < length (slice_set xs g y) = omega (arith, length-set xs g y) in
    elim (cases_lt g k) [
      | inl past ↦
          let other : k ≢ g = λ same. absurd (omega (arith, same)) in
          omega (
            arith,
            raised_high xs g y k l e past (omega arith),
            sum_suc (slice_set xs g y) k listed,
            sum_suc xs k (omega arith),
            get_or-set_other xs g k y 0 other,
          )
      | inr last ↦
          let same : k ≡ g = omega arith in
          omega (
            arith,
            raised_low xs g y k (omega arith),
            sum_suc (slice_set xs g y) k listed,
            sum_suc xs k (omega arith),
            ap (λ i. slice_index (slice_set xs g y) i) same,
            ap (λ i. slice_index xs i) same,
            get_or-set_same xs g y 0 l,
          )
    ]

-- Raising the sum of the block's group keeps the sums right when a number is put in.
pub AreSums-put : (xs : List ℕ) (bs : List (List ℕ)) (i w n : ℕ) → AreSums xs bs → i < length bs
    → w ≤ length (block_at bs i)
    → AreSums (slice_set xs (i / 64) (slice_index xs (i / 64) + 1)) (put bs i w n)
AreSums-put xs bs i w n h l f =
    let y = slice_index xs (i / 64) + 1 in
    record {
      all = omega (arith, h.all, length-put bs i w n, length-set xs (i / 64) y);
      each = λ k within.
          let old : sum (take k xs) ≡ length_before bs (64 * k) = h.each k (omega (
            arith,
            length-set xs (i / 64) y,
          )) in
          elim (cases_lt (i / 64) k) [
            | inl past ↦
                omega (
                  arith,
                  old,
                  before_put_high bs i w n (64 * k) (omega arith) l f,
                  raised_high xs (i / 64) y k (omega (arith, h.all)) refl past (omega (
                    arith,
                    length-set xs (i / 64) y,
                  )),
                )
            | inr low ↦ omega (
              arith,
              old,
              before_put_low bs i w n (64 * k) (omega arith),
              raised_low xs (i / 64) y k (omega arith),
            )
          ];
    }

-- The sums so far, with the next group's sum written, are right up to that group: the loop's step.
pub made_each : (xs : List ℕ) (bs : List (List ℕ)) (g y : ℕ) → g < length xs
    → y ≡ length (concat (take 64 (drop (64 * g) bs)))
    → ((k : ℕ) → k ≤ g → sum (take k xs) ≡ length_before bs (64 * k))
    → (k : ℕ) → k ≤ g + 1 → sum (take k (slice_set xs g y)) ≡ length_before bs (64 * k)
made_each xs bs g y l e each k within =
    elim (cases_lt k (g + 1)) [
      | inl low ↦ raised_low xs g y k (omega arith) ∙ each k (omega arith)
      | inr last ↦
          let same : k ≡ g + 1 = omega arith in
          let next : 64 * k ≡ 64 * g + 64 = omega arith in
          omega (
            arith,
            e,
            ap (λ i. sum (take i (slice_set xs g y))) same,
            sum_next (slice_set xs g y) g (omega (arith, length-set xs g y)),
            raised_low xs g y g (omega arith),
            get_or-set_same xs g y 0 l,
            each g (omega arith),
            ap (λ i. length_before bs i) next,
            before_from bs (64 * g) 64,
          )
    ]

-- ---- the blocks of the next group, and those after it

-- The first group is at most 64 blocks, or all there are.
take_group : (bs : List (List ℕ)) (m : ℕ) → m ≡ min (length bs) 64 → take m bs ≡ take 64 bs
take_group bs m e = elim (cases_lt 64 (length bs)) [
  | inl more ↦ let all : m ≡ 64 = omega arith in ap (λ k. take k bs) all
  | inr few ↦ take_all m bs (omega arith) ∙ sym (take_all 64 bs (omega arith))
]

-- The length counted for the next group is that of its 64 blocks.
pub next_sum : (bs rest : List (List ℕ)) (g m : ℕ) → rest ≡ drop (64 * g) bs
    → m ≡ min (length rest) 64
    → length (concat (take m rest)) ≡ length (concat (take 64 (drop (64 * g) bs)))
next_sum bs rest g m e h = ap (λ xs. length (concat xs)) (take_group rest m h
    ∙ ap (λ xs. take 64 xs) e)

-- The blocks after the first group are those after 64.
drop_group : (bs : List (List ℕ)) (m : ℕ) → m ≡ min (length bs) 64 → drop m bs ≡ drop 64 bs
drop_group bs m e = elim (cases_lt 64 (length bs)) [
  | inl more ↦ let all : m ≡ 64 = omega arith in ap (λ k. drop k bs) all
  | inr few ↦
      let short : length bs ≤ 64 = omega arith in
      let all : length bs ≤ m = omega arith in
      drop_of_length-le bs all ∙ sym (drop_of_length-le bs short)
]

-- What is left after the next group are the blocks from the group after it on.
pub next_rest : (bs rest : List (List ℕ)) (g m : ℕ) → rest ≡ drop (64 * g) bs
    → m ≡ min (length rest) 64
    → take (length rest - m) (drop m rest) ≡ drop (64 * (g + 1)) bs
next_rest bs rest g m e h =
    let next : 64 * g + 64 ≡ 64 * (g + 1) = omega arith in
    take_rest rest m ∙ drop_group rest m h ∙ ap (λ xs. drop 64 xs) e ∙ drop-drop 64 (64 * g) bs
    ∙ ap (λ k. drop k bs) next

-- A group has no more numbers than the sequence, so the count cannot overflow.
pub next_few : (bs rest : List (List ℕ)) (g m : ℕ) → rest ≡ drop (64 * g) bs
    → length (concat (take m rest)) ≤ length (concat bs)
next_few bs rest g m e = omega (
  arith,
  before_within rest m,
  before_after bs (64 * g),
  ap (λ xs. length (concat xs)) e,
)
