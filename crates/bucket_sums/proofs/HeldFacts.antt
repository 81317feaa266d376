-- The texts of which the sums are made, and how many sums there are.
use Rattle.std.proofs.Common.{◌≡◌, ◌∙◌, ℕ, zero, suc, ◌+◌, ◌≤◌, List, [], ◌∷◌, ◌++◌, length, map, drop, refl, sym, ap}
use Rattle.std.proofs.Common.{append_assoc, append-nil}
use Rattle.std.specs.List.{flat_map}
use Rattle.std.proofs.lemmas.List.{drop_all}
use Rattle.receipt_core.specs.declared.distrust.Distrust.{Distrust}
use Rattle.receipt_core.specs.declared.receipt_id.ReceiptId.{ReceiptId}
use Rattle.replica_core.specs.State.{State}
use Rattle.replica_texts.specs.Messages.{record_text}
use Rattle.bucket_sums.specs.Sums.{bucket_sums_from, ids_text}

-- an id as its bytes
abbrev pub id_bytes : ReceiptId → List ℕ
id_bytes id = id.0

-- Texts of images are texts of the items.
ids-map : (ids : List ReceiptId) → ids_text (map id_bytes ids) ≡ flat_map id_bytes ids
ids-map [] = refl
ids-map (id ∷ ids) = ap (λ t. id_bytes id ++ t) (ids-map ids)

-- After the loop all ids are written.
pub ids-written : (text : List ℕ) (ids : List ReceiptId) (index : ℕ) → length ids ≤ index
    → text ++ flat_map id_bytes (drop index ids) ≡ flat_map id_bytes ids → text ≡ ids_text (map id_bytes ids)
ids-written text ids index over so_far =
    sym (append-nil text) ∙ ap (λ xs. text ++ flat_map id_bytes xs) (sym (drop_all index ids over)) ∙ so_far ∙ sym (ids-map ids)

-- One record more is written, and the others are still to come.
pub records-more : (old new : List ℕ) (x : Distrust) (rest others : List Distrust) (all : List ℕ) → rest ≡ x ∷ others → new ≡ old ++ record_text x
    → old ++ flat_map record_text rest ≡ all → new ++ flat_map record_text others ≡ all
records-more old new x rest others all e n h =
    ap (λ t. t ++ flat_map record_text others) n ∙ append_assoc old (record_text x) (flat_map record_text others)
    ∙ ap (λ xs. old ++ flat_map record_text xs) (sym e) ∙ h

-- There is one sum for each bucket.
pub length-bucket_sums : (state : State) (first count : ℕ) → length (bucket_sums_from state first count) ≡ count
unfolding bucket_sums_from
length-bucket_sums state first zero = refl
length-bucket_sums state first (suc more) = ap suc (length-bucket_sums state (first + 1) more)
