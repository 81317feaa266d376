-- Blocks of a sequence: what is put in, what is cut, and the block of a place
use Rattle.std.proofs.Common.{◌≡◌, ℕ, zero, suc, ◌+◌, ◌-◌, ◌*◌, ◌<◌, ◌≤◌, List, [], ◌∷◌, ◌++◌, length, take, drop}
use Rattle.std.proofs.Common.{slice_index, slice_index_or, slice_set, refl, sym, ◌∙◌, ap, arith, slice_get, Some}
use Rattle.std.proofs.Common.{Result, IsOk, is_ok, if◌then◌else◌, append_assoc, length-append, length-drop, add-one}
use Rattle.std.proofs.lemmas.List.{take-append-drop, length-take, length-take-le, take_all, drop-append-le, drop-drop}
use Rattle.std.proofs.lemmas.List.{drop_at, get_or_append_left, get_or-append-add, get_or_read, take_rest}
use Rattle.std.proofs.lemmas.Option.{slice_get-get_or}
use Rattle.std.proofs.lemmas.List.Edits.{insert-append_left, insert-append_right}
use Rattle.std.specs.List.{concat, insert}
use Rattle.sorted_order.specs.Inside.Blocks.{AreHalfFull, AreFilled, block_at, length_before, put, halved, IsSpot, IsLeft}

-- Replacing a block by the longer one is `put`, as the definition has it.
pub put_is : (bs : List (List ℕ)) (i w n : ℕ) → slice_set bs i (insert (block_at bs i) w n) ≡ put bs i w n
put_is [] i w n = refl
put_is (b ∷ bs) zero w n = refl
put_is (b ∷ bs) (suc i) w n = ap (λ rest. b ∷ rest) (put_is bs i w n)

-- Replacing a block by its first half, and inserting the second after it, is `halved`.
pub halved_is : (bs : List (List ℕ)) (i : ℕ) → i < length bs
    → insert (slice_set bs i (take 256 (block_at bs i))) (suc i) (drop 256 (block_at bs i)) ≡ halved bs i
halved_is [] i h = absurd (omega arith)
halved_is (b ∷ bs) zero h = refl
halved_is (b ∷ bs) (suc i) h = ap (λ rest. b ∷ rest) (halved_is bs i (omega arith))

-- To put a number into a block is to insert it into the sequence.
pub concat-put : (bs : List (List ℕ)) (i w n at : ℕ) → i < length bs → w ≤ length (block_at bs i)
    → length_before bs i + w ≡ at → concat (put bs i w n) ≡ insert (concat bs) at n
concat-put [] i w n at h l e = absurd (omega arith)
concat-put (b ∷ bs) zero w n at h l e =
    let same : w ≡ at = omega arith in
    let fits : at ≤ length b = omega arith in
    rw same (sym (insert-append_left b (concat bs) at n fits))
concat-put (b ∷ bs) (suc i) w n at h l e =
    let rest : length_before bs i + w ≡ at - length b = omega (arith, length-append b (concat (take i bs))) in
    let past : length b ≤ at = omega (arith, length-append b (concat (take i bs))) in
    ap (λ rest. b ++ rest) (concat-put bs i w n (at - length b) (omega arith) l rest)
    ∙ sym (insert-append_right b (concat bs) (length b) at n refl past)

-- Cutting a block into halves leaves the sequence as it is.
pub concat-halved : (bs : List (List ℕ)) (i : ℕ) → concat (halved bs i) ≡ concat bs
concat-halved [] i = refl
concat-halved (b ∷ bs) zero =
    sym (append_assoc (take 256 b) (drop 256 b) (concat bs)) ∙ ap (λ rest. rest ++ concat bs) (take-append-drop 256 b)
concat-halved (b ∷ bs) (suc i) = ap (λ rest. b ++ rest) (concat-halved bs i)

-- Putting a number in makes no block.
pub length-put : (bs : List (List ℕ)) (i w n : ℕ) → length (put bs i w n) ≡ length bs
length-put [] i w n = refl
length-put (b ∷ bs) zero w n = refl
length-put (b ∷ bs) (suc i) w n = ap suc (length-put bs i w n)

-- Cutting a block makes one block more.
pub length-halved : (bs : List (List ℕ)) (i : ℕ) → i < length bs → length (halved bs i) ≡ suc (length bs)
length-halved [] i h = absurd (omega arith)
length-halved (b ∷ bs) zero h = refl
length-halved (b ∷ bs) (suc i) h = ap suc (length-halved bs i (omega arith))

-- ---- the two halves

-- After a cut the first half is at the block's place.
pub first_half : (bs : List (List ℕ)) (i : ℕ) → i < length bs → block_at (halved bs i) i ≡ take 256 (block_at bs i)
first_half [] i h = absurd (omega arith)
first_half (b ∷ bs) zero h = refl
first_half (b ∷ bs) (suc i) h = first_half bs i (omega arith)

-- After a cut the second half is in the next place.
pub second_half : (bs : List (List ℕ)) (i : ℕ) → i < length bs → block_at (halved bs i) (suc i) ≡ drop 256 (block_at bs i)
second_half [] i h = absurd (omega arith)
second_half (b ∷ bs) zero h = refl
second_half (b ∷ bs) (suc i) h = second_half bs i (omega arith)

-- A cut does not change how many numbers come before the block.
pub before_first_half : (bs : List (List ℕ)) (i : ℕ) → length_before (halved bs i) i ≡ length_before bs i
before_first_half [] i = refl
before_first_half (b ∷ bs) zero = refl
before_first_half (b ∷ bs) (suc i) =
    omega (arith, before_first_half bs i, length-append b (concat (take i bs)), length-append b (concat (take i (halved bs i))))

-- ---- how far it is to the next block, and to the end

-- Before the next block come the numbers of this one too.
pub before_next : (bs : List (List ℕ)) (i : ℕ) → i < length bs → length_before bs (suc i) ≡ length_before bs i + length (block_at bs i)
before_next [] i h = absurd (omega arith)
before_next (b ∷ bs) zero h = omega (arith, length-append b [])
before_next (b ∷ bs) (suc i) h =
    omega (arith, before_next bs i (omega arith), length-append b (concat (take i bs)), length-append b (concat (take (suc i) bs)))

-- Before the end of the directory come all numbers.
pub before_all : (bs : List (List ℕ)) (i : ℕ) → length bs ≤ i → length_before bs i ≡ length (concat bs)
before_all bs i h = ap (λ rest. length (concat rest)) (take_all i bs h)

-- No block begins past the end of the sequence.
pub before_within : (bs : List (List ℕ)) (i : ℕ) → length_before bs i ≤ length (concat bs)
before_within [] zero = omega arith
before_within [] (suc i) = omega arith
before_within (b ∷ bs) zero = omega arith
before_within (b ∷ bs) (suc i) =
    omega (arith, before_within bs i, length-append b (concat (take i bs)), length-append b (concat bs))

-- ---- what is still half full

-- Inserting a number never shortens a block.
longer : (b : List ℕ) (w n : ℕ) → length b ≤ length (insert b w n)
longer b w n = omega (arith, length-append (take w b) (n ∷ drop w b), length-take w b, length-drop w b)

-- Blocks that are half full are still so when a number is put in.
AreHalfFull-put : (bs : List (List ℕ)) (i w n : ℕ) → AreHalfFull bs → AreHalfFull (put bs i w n)
AreHalfFull-put [] i w n h = tt
AreHalfFull-put (b ∷ bs) zero w n h = let half : 256 ≤ length b = h.0 in (omega (arith, longer b w n), h.1)
AreHalfFull-put (b ∷ bs) (suc i) w n h = (h.0, AreHalfFull-put bs i w n h.1)

-- The same if the first block may be less full: this is the invariant of the directory.
pub AreFilled-put : (bs : List (List ℕ)) (i w n : ℕ) → AreFilled bs → AreFilled (put bs i w n)
AreFilled-put [] i w n h = tt
AreFilled-put (b ∷ bs) zero w n h = h
AreFilled-put (b ∷ bs) (suc i) w n h = AreHalfFull-put bs i w n h

-- Cutting a full block leaves all blocks half full.
AreHalfFull-halved : (bs : List (List ℕ)) (i : ℕ) → i < length bs → 512 ≤ length (block_at bs i) → AreHalfFull bs → AreHalfFull (halved bs i)
AreHalfFull-halved [] i l full h = absurd (omega arith)
AreHalfFull-halved (b ∷ bs) zero l full h =
    (omega (arith, length-take 256 b), (omega (arith, length-drop 256 b), h.1))
AreHalfFull-halved (b ∷ bs) (suc i) l full h = (h.0, AreHalfFull-halved bs i (omega arith) full h.1)

-- The same if the first block may be less full: this is the invariant of the directory.
pub AreFilled-halved : (bs : List (List ℕ)) (i : ℕ) → i < length bs → 512 ≤ length (block_at bs i) → AreFilled bs → AreFilled (halved bs i)
AreFilled-halved [] i l full h = absurd (omega arith)
AreFilled-halved (b ∷ bs) zero l full h = (omega (arith, length-drop 256 b), h)
AreFilled-halved (b ∷ bs) (suc i) l full h = AreHalfFull-halved bs i (omega arith) full h

-- ---- a full block means that the numbers are too many for the room that the blocks make

-- Blocks that are half full hold half of what they can hold.
half_full : (bs : List (List ℕ)) → AreHalfFull bs → 256 * length bs ≤ length (concat bs)
half_full [] h = omega arith
half_full (b ∷ bs) h = let half : 256 ≤ length b = h.0 in omega (arith, half_full bs h.1, length-append b (concat bs))

-- With a full block among them they hold half a block more.
full_among : (bs : List (List ℕ)) (i : ℕ) → i < length bs → 512 ≤ length (block_at bs i) → AreHalfFull bs
    → 256 * length bs + 256 ≤ length (concat bs)
full_among [] i l full h = absurd (omega arith)
full_among (b ∷ bs) zero l full h = omega (arith, half_full bs h.1, length-append b (concat bs))
full_among (b ∷ bs) (suc i) l full h =
    let half : 256 ≤ length b = h.0 in
    omega (arith, full_among bs i (omega arith) full h.1, length-append b (concat bs))

-- With a full block, the numbers reach the room that the blocks make: so if there is room, a spare
-- block is left.
pub too_many : (bs : List (List ℕ)) (i : ℕ) → i < length bs → 512 ≤ length (block_at bs i) → AreFilled bs
    → 256 * length bs ≤ length (concat bs)
too_many [] i l full h = absurd (omega arith)
too_many (b ∷ bs) zero l full h = omega (arith, half_full bs h, length-append b (concat bs))
too_many (b ∷ bs) (suc i) l full h = omega (arith, full_among bs i (omega arith) full h, length-append b (concat bs))

-- One of the half full blocks holds 256 numbers.
half_full_at : (bs : List (List ℕ)) (i : ℕ) → i < length bs → AreHalfFull bs → 256 ≤ length (block_at bs i)
half_full_at [] i l h = absurd (omega arith)
half_full_at (b ∷ bs) zero l h = h.0
half_full_at (b ∷ bs) (suc i) l h = half_full_at bs i (omega arith) h.1

-- Each block but the first holds 256 numbers, so it is not empty.
pub filled_at : (bs : List (List ℕ)) (i : ℕ) → 0 < i → i < length bs → AreFilled bs → 256 ≤ length (block_at bs i)
filled_at [] i p l h = absurd (omega arith)
filled_at (b ∷ bs) zero p l h = absurd (omega arith)
filled_at (b ∷ bs) (suc i) p l h = half_full_at bs i (omega arith) h

-- ---- the numbers of the sequence by the blocks in which they lie

-- The number at a place of the sequence is the one at its place in its block.
pub concat-at : (bs : List (List ℕ)) (i j at : ℕ) → i < length bs → j < length (block_at bs i) → length_before bs i + j ≡ at
    → slice_index (concat bs) at ≡ slice_index (block_at bs i) j
concat-at [] i j at l h e = absurd (omega arith)
concat-at (b ∷ bs) zero j at l h e =
    let same : at ≡ j = omega arith in
    rw same (get_or_append_left b (concat bs) 0 j h)
concat-at (b ∷ bs) (suc i) j at l h e =
    let split : at ≡ length b + (length_before bs i + j) = omega (arith, length-append b (concat (take i bs))) in
    rw split (get_or-append-add b (concat bs) (length_before bs i + j) 0
    ∙ concat-at bs i j (length_before bs i + j) (omega arith) h refl)

-- What is left of the sequence from a place on is the rest of its block and the later blocks.
pub drop-concat : (bs : List (List ℕ)) (i w at : ℕ) → i < length bs → w ≤ length (block_at bs i) → length_before bs i + w ≡ at
    → drop at (concat bs) ≡ drop w (block_at bs i) ++ concat (drop (suc i) bs)
drop-concat [] i w at l h e = absurd (omega arith)
drop-concat (b ∷ bs) zero w at l h e =
    let same : at ≡ w = omega arith in
    rw same (drop-append-le w b (concat bs) h)
drop-concat (b ∷ bs) (suc i) w at l h e =
    let split : at ≡ length b + (length_before bs i + w) = omega (arith, length-append b (concat (take i bs))) in
    rw split (sym (drop-drop (length_before bs i + w) (length b) (b ++ concat bs))
    ∙ ap (λ rest. drop (length_before bs i + w) rest) (drop_at b (concat bs) (length b) refl)
    ∙ drop-concat bs i w (length_before bs i + w) (omega arith) h refl)

-- What a discarded answer means if there was room.
pub if_ok : {A E X : Type 0} (r : Result A E) (xs ys zs : List X) → IsOk r → xs ≡ (if is_ok r then ys else zs) → xs ≡ ys
if_ok r xs ys zs ok e = rw ok at e

-- ---- what the calls over vectors leave, in terms of lists

-- Putting a number into a block that was lent out gives `put`.
pub put_from : (bs : List (List ℕ)) (i w n : ℕ) (b : List ℕ) → i < length bs → b ≡ slice_index_or bs i b
    → slice_set bs i (insert b w n) ≡ put bs i w n
put_from bs i w n b l e = rw (get_or_read bs i b l e []) (put_is bs i w n)

-- Writing the first half back, and inserting the second, gives `halved`.
pub split_from : (bs : List (List ℕ)) (i next : ℕ) (b first second : List ℕ) → i < length bs → b ≡ slice_index_or bs i b
    → next ≡ suc i → first ≡ take 256 b → second ≡ drop 256 b → insert (slice_set bs i first) next second ≡ halved bs i
split_from bs i next b first second l e n f s = rw (n, f, s, get_or_read bs i b l e []) (halved_is bs i l)

-- ---- the block of a place after a block is cut into halves

-- A place in the first half lies in the same block as before.
pub first_spot : (bs : List (List ℕ)) (at i w : ℕ) → IsSpot bs at i w → 256 ≤ length (block_at bs i) → w ≤ 256
    → IsSpot (halved bs i) at i w
first_spot bs at i w spot half low = record {
  listed = omega (arith, length-halved bs i spot.listed, spot.listed);
  within = rw (first_half bs i spot.listed) (omega (arith, length-take-le 256 (block_at bs i) half));
  whole = omega (arith, before_first_half bs i, spot.whole);
}

-- A place in the second half lies in the next block, 256 earlier.
pub second_spot : (bs : List (List ℕ)) (at i w : ℕ) → IsSpot bs at i w → 256 ≤ length (block_at bs i) → 256 < w
    → IsSpot (halved bs i) at (suc i) (w - 256)
second_spot bs at i w spot half high =
    let listed : i < length (halved bs i) = omega (arith, length-halved bs i spot.listed, spot.listed) in
    let first : length (block_at (halved bs i) i) ≡ 256 = rw (first_half bs i spot.listed) (length-take-le 256 (block_at bs i) half) in
    record {
      listed = omega (arith, length-halved bs i spot.listed, spot.listed);
      within = rw (second_half bs i spot.listed) (omega (arith, length-drop 256 (block_at bs i), spot.within));
      whole = omega (arith, before_next (halved bs i) i listed, first, before_first_half bs i, spot.whole);
    }

-- At a place's block and place within it, `put` inserts at the place of the sequence.
pub put_at : (bs : List (List ℕ)) (at i w n : ℕ) → IsSpot bs at i w → concat (put bs i w n) ≡ insert (concat bs) at n
put_at bs at i w n spot = concat-put bs i w n at spot.listed spot.within spot.whole

-- ---- what is left from a place on

-- The later ones of half full blocks are half full.
half_after : (bs : List (List ℕ)) (i : ℕ) → AreHalfFull bs → AreHalfFull (drop i bs)
half_after [] zero h = tt
half_after [] (suc i) h = tt
half_after (b ∷ bs) zero h = h
half_after (b ∷ bs) (suc i) h = half_after bs i h.1

-- All blocks after another one are half full, since only the first may be less full.
filled_after : (bs : List (List ℕ)) (i : ℕ) → AreFilled bs → AreHalfFull (drop (suc i) bs)
filled_after [] i h = tt
filled_after (b ∷ bs) i h = half_after bs i h

-- What is to be lent from a place on is within the sequence, and no later block is empty.
pub left_from : (bs : List (List ℕ)) (at i w n : ℕ) (b : List ℕ) → IsSpot bs at i w → AreFilled bs → at + n ≤ length (concat bs)
    → b ≡ block_at bs i → IsLeft (take (length b - w) (drop w b)) (take (length bs - (i + 1)) (drop (i + 1) bs)) n
left_from bs at i w n b spot filled within e =
    let rest = drop-concat bs i w at spot.listed spot.within spot.whole in
    let length_rest : length (drop w (block_at bs i) ++ concat (drop (suc i) bs)) ≡ length (concat bs) - at =
    sym (ap length rest) ∙ length-drop at (concat bs) in
    rw (take_rest b w, take_rest bs (i + 1), add-one, e) (record { filled = filled_after bs i filled; within = omega arith })

-- The numbers to be lent are those of the sequence from the place on.
pub left_view : (bs : List (List ℕ)) (at i w n : ℕ) (b : List ℕ) → IsSpot bs at i w → b ≡ block_at bs i
    → take n (take (length b - w) (drop w b) ++ concat (take (length bs - (i + 1)) (drop (i + 1) bs))) ≡ take n (drop at (concat bs))
left_view bs at i w n b spot e =
    rw (take_rest b w, take_rest bs (i + 1), add-one, e)
    (ap (λ xs. take n xs) (sym (drop-concat bs i w at spot.listed spot.within spot.whole)))

-- ---- the number at a place

-- If the place lies in its block, the number there is the sequence's.
pub first_here : (bs : List (List ℕ)) (i j at : ℕ) → i < length bs → j < length (block_at bs i) → length_before bs i + j ≡ at
    → slice_get (concat bs) at ≡ Some (slice_index (block_at bs i) j)
first_here bs i j at l h e =
    slice_get-get_or (concat bs) at 0 (omega (arith, before_next bs i l, before_within bs (suc i)))
    ∙ ap Some (concat-at bs i j at l h e)

-- If the place is the end of its block, the number is the first of the next block.
pub first_next : (bs : List (List ℕ)) (i j : ℕ) → i + 1 < length bs → j ≡ length (block_at bs i) → AreFilled bs
    → slice_get (concat bs) (length_before bs i + j) ≡ Some (slice_index (block_at bs (i + 1)) 0)
first_next bs i j l h filled =
    let here : i < length bs = omega arith in
    let next : suc i < length bs = omega arith in
    rw add-one (first_here bs (suc i) 0 (length_before bs i + j) next
    (omega (arith, filled_at bs (suc i) (omega arith) next filled)) (omega (arith, before_next bs i here)))

-- If the place is the end of the last block, nothing is there.
pub first_past : (bs : List (List ℕ)) (i j : ℕ) → i < length bs → length bs ≤ i + 1 → j ≡ length (block_at bs i)
    → length (concat bs) ≤ length_before bs i + j
first_past bs i j here l h = omega (arith, before_next bs i here, before_all bs (suc i) (omega arith))

-- The length read from a lent block is that of the block in the directory.
pub block_length : (bs : List (List ℕ)) (i n : ℕ) (b : List ℕ) → i < length bs → b ≡ slice_index_or bs i b → n ≡ length b
    → n ≡ length (block_at bs i)
block_length bs i n b l e m = m ∙ ap length (get_or_read bs i b l e [])

-- A place lies in a full block.
pub record IsFull (bs : List (List ℕ)) (at i w : ℕ) : Type 0 where
  pub spot : IsSpot bs at i w
  pub full : length (block_at bs i) ≡ 512

-- What the check of a block's length shows: the place lies in a full block.
pub full_from : (bs lent : List (List ℕ)) (at i w n : ℕ) (b : List ℕ) → lent ≡ bs → IsSpot lent at i w → b ≡ slice_index_or bs i b
    → n ≡ length b → n ≤ 512 → 512 ≤ n → IsFull bs at i w
full_from bs lent at i w n b same spot e len most least =
    let here : IsSpot bs at i w = rw same at spot in
    record { spot = here; full = omega (arith, block_length bs i n b here.listed e len) }

-- The first half of a full block has room.
pub first_room : (bs : List (List ℕ)) (at i w : ℕ) → IsFull bs at i w → length (block_at (halved bs i) i) < 512
first_room bs at i w h = rw (first_half bs i h.spot.listed) (omega (arith, length-take 256 (block_at bs i)))

-- The second half of a full block has room.
pub second_room : (bs : List (List ℕ)) (at i w : ℕ) → IsFull bs at i w → length (block_at (halved bs i) (suc i)) < 512
second_room bs at i w h = rw (second_half bs i h.spot.listed) (omega (arith, length-drop 256 (block_at bs i), h.full))

-- If the sequence has room and a block is full, a spare block is there to cut it.
pub has_spare : (bs : List (List ℕ)) (at i w spare : ℕ) → IsFull bs at i w → AreFilled bs
    → length (concat bs) < 256 * (length bs + spare - 1) → 0 < spare
has_spare bs at i w spare h filled room = omega (arith, too_many bs i h.spot.listed (omega (arith, h.full)) filled)
