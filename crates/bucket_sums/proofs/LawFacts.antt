-- What a mark that is not set says of what is held.
use Rattle.std.proofs.Common.{◌≡◌, ◌∙◌, ℕ, zero, suc, ◌+◌, ◌*◌, ◌<◌, true, false, List, [], ◌∷◌, ◌++◌, length, map, take, drop, get_or}
use Rattle.std.proofs.Common.{refl, sym, ap, arith, length-append}
use Rattle.std.specs.Prelude.{slice_index, Result, Ok, Err}
use Rattle.std.specs.Int.{to_be_bytes, w32}
use Rattle.std.specs.List.{AllByRecursion}
use Rattle.std.proofs.lemmas.List.{length-map}
use Rattle.std.proofs.Math.Seq.{drop-append_seam, take-append_seam}
use Rattle.hex.specs.Hex.{decode_sized, encode_lower}
use Rattle.sha2.specs.Sha256.{sha256, digest_bytes}
use Rattle.receipt_core.specs.Receipt.{IsDigest}
use Rattle.receipt_core.proofs.HexFacts.{decode_sized-encode_lower}
use Rattle.replica_core.specs.State.{State, ids_held}
use Rattle.replica_core.proofs.BucketFacts.{digest-bytes}
use Rattle.bucket_sums.specs.Sums.{HasDistinctSums, bucket_sum, bucket_sums_from, ids_text, marks_between, records_sum, sums_of}
use Rattle.bucket_sums.proofs.CompareFacts.{length-differences, unmarked-line}
use Rattle.bucket_sums.proofs.HeldFacts.{length-bucket_sums}

-- ---- digests

-- A digest has four bytes for each part of 32 bits.
length-digest : (h : List ℕ) (n : ℕ) → length (digest_bytes h n) ≡ 4 * n
unfolding digest_bytes
length-digest h zero = refl
length-digest h (suc n) =
    let four : length (to_be_bytes w32 (slice_index h n)) ≡ 4 = refl in
    let before = length-digest h n in
    let both = length-append (digest_bytes h n) (to_be_bytes w32 (slice_index h n)) in
    omega (arith, four, before, both)

-- A SHA-256 has 32 bytes.
pub is_digest : (text : List ℕ) → IsDigest (sha256 text)
unfolding sha256
is_digest text = record { size = length-digest _ 8; octets = digest-bytes _ 8 }

-- the bytes, if there are any
abbrev bytes_in : {E : Type 0} → Result (List ℕ) E → List ℕ
bytes_in (Ok bytes) = bytes
bytes_in (Err e) = []

-- One text in hexadecimal is that of one digest.
one_digest : (a b : List ℕ) → IsDigest a → IsDigest b → encode_lower a ≡ encode_lower b → a ≡ b
one_digest a b is also e =
    ap bytes_in (sym (decode_sized-encode_lower a is) ∙ ap (λ (t : List ℕ). decode_sized t 32) e ∙ decode_sized-encode_lower b also)

-- ---- the place of a sum

-- The place of an image is that of its item.
place-map : (sums : List (List ℕ)) (place : ℕ) → place < length sums
    → get_or (map encode_lower sums) place [] ≡ encode_lower (get_or sums place [])
place-map [] place within = absurd (omega (arith, within))
place-map (sum ∷ sums) zero within = refl
place-map (sum ∷ sums) (suc place) within = place-map sums place (omega (arith, within))

-- The sum of a bucket is in its place.
place-sum : (state : State) (first count place : ℕ) → place < count
    → get_or (bucket_sums_from state first count) place [] ≡ bucket_sum state (first + place)
unfolding bucket_sums_from
place-sum state first zero place within = absurd (omega (arith, within))
place-sum state first (suc count) zero within = let e : first ≡ first + 0 = omega arith in ap (bucket_sum state) e
place-sum state first (suc count) (suc place) within =
    let e : (first + 1) + place ≡ first + suc place = omega arith in
    place-sum state (first + 1) count place (omega (arith, within)) ∙ ap (bucket_sum state) e

-- There are 257 sums.
pub length-sums : (state : State) → length (sums_of state) ≡ 257
length-sums state = let buckets = length-bucket_sums state 0 256 in omega (arith, buckets)

-- What is not marked has one sum.
one_sum : (one other : State) (place : ℕ) → place < 257 → get_or (marks_between one other) place true ≡ false
    → encode_lower (get_or (sums_of one) place []) ≡ encode_lower (get_or (sums_of other) place [])
one_sum one other place within none =
    let own = length-sums one in
    let theirs = length-sums other in
    let images = length-map (sums_of one) encode_lower in
    sym (place-map (sums_of one) place (omega (arith, own, within)))
    ∙ unmarked-line (map encode_lower (sums_of one)) (sums_of other) place (omega (arith, own, images, within)) (omega (arith, theirs, within)) none

-- There is a mark for each part.
pub length-marks : (one other : State) → length (marks_between one other) ≡ 257
length-marks one other =
    let own = length-sums one in
    let theirs = length-sums other in
    let images = length-map (sums_of one) encode_lower in
    length-differences (map encode_lower (sums_of one)) (sums_of other) (omega (arith, own, theirs, images)) ∙ images ∙ own

-- The sum of a bucket is after that of the records.
place-bucket : (state : State) (bucket : ℕ) → bucket < 256 → get_or (sums_of state) (suc bucket) [] ≡ bucket_sum state bucket
place-bucket state bucket within =
    let e : 0 + bucket ≡ bucket = omega arith in
    place-sum state 0 256 bucket within ∙ ap (bucket_sum state) e

-- A bucket that is not marked has the same ids.
pub same_ids : (one other : State) (bucket : ℕ) → bucket < 256 → HasDistinctSums one other
    → get_or (marks_between one other) (bucket + 1) true ≡ false → ids_held one bucket ≡ ids_held other bucket
same_ids one other bucket within apart none =
    let at : suc bucket ≡ bucket + 1 = omega arith in
    let mark : get_or (marks_between one other) (suc bucket) true ≡ false = ap (λ p. get_or (marks_between one other) p true) at ∙ none in
    apart.ids bucket within
    (one_digest (bucket_sum one bucket) (bucket_sum other bucket) (is_digest _) (is_digest _)
    (ap encode_lower (sym (place-bucket one bucket within)) ∙ one_sum one other (suc bucket) (omega (arith, within)) mark
    ∙ ap encode_lower (place-bucket other bucket within)))

-- Records that are not marked are the same.
pub same_records : (one other : State) → HasDistinctSums one other → get_or (marks_between one other) 0 true ≡ false → one.records ≡ other.records
same_records one other apart none =
    apart.records (one_digest (records_sum one) (records_sum other) (is_digest _) (is_digest _) (one_sum one other 0 (omega arith) none))

-- ---- texts of ids

-- Two lists of ids have two texts.
pub ids_apart : (ids others : List (List ℕ)) → AllByRecursion IsDigest ids → AllByRecursion IsDigest others → ids_text ids ≡ ids_text others → ids ≡ others
ids_apart [] [] h k e = refl
ids_apart [] (o ∷ others) h k e =
    let size = k.0.size in
    let whole = length-append o (ids_text others) in
    let same : 0 ≡ length (o ++ ids_text others) = ap length e in
    absurd (omega (arith, size, whole, same))
ids_apart (i ∷ ids) [] h k e =
    let size = h.0.size in
    let whole = length-append i (ids_text ids) in
    let same : length (i ++ ids_text ids) ≡ 0 = ap length e in
    absurd (omega (arith, size, whole, same))
ids_apart (i ∷ ids) (o ∷ others) h k e =
    let front : i ≡ o =
    sym (take-append_seam i (ids_text ids)) ∙ ap (λ n. take n (i ++ ids_text ids)) h.0.size ∙ ap (take 32) e
    ∙ ap (λ n. take n (o ++ ids_text others)) (sym k.0.size) ∙ take-append_seam o (ids_text others) in
    let back : ids_text ids ≡ ids_text others =
    sym (drop-append_seam i (ids_text ids)) ∙ ap (λ n. drop n (i ++ ids_text ids)) h.0.size ∙ ap (drop 32) e
    ∙ ap (λ n. drop n (o ++ ids_text others)) (sym k.0.size) ∙ drop-append_seam o (ids_text others) in
    ap (λ x. x ∷ ids) front ∙ ap (λ xs. o ∷ xs) (ids_apart ids others h.1 k.1 back)
