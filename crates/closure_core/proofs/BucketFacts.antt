-- Receipts of one bucket, or of all
use Rattle.std.proofs.Common.{◌≡◌, ◌∙◌, ℕ, List, ◌∷◌, true, false, cond, Option, Some, None, sym, ap, refl, []}
use Rattle.std.proofs.lemmas.Bool.{both_ways}
use Rattle.receipt_core.specs.Receipt.{Receipt}
use Rattle.closure_core.specs.AcceptedList.{is_within, receipts_in, receipts_within}

-- A receipt of another bucket is passed over: the receipts left to lend are the same.
pub within_skips : (bucket : Option ℕ) (r : Receipt) (before after : List Receipt) → before ≡ r ∷ after
    → is_within bucket r ≡ false → receipts_within bucket after ≡ receipts_within bucket before
within_skips None r before after e t = absurd (both_ways true t refl)
within_skips (Some b) r before after e t =
    ap (λ k. cond k (r ∷ receipts_in b after) (receipts_in b after)) (sym t) ∙ ap (receipts_in b) (sym e)

-- A receipt of the bucket is the first of those that are left to lend.
pub within_gives : (bucket : Option ℕ) (r : Receipt) (before after : List Receipt) → before ≡ r ∷ after
    → is_within bucket r ≡ true → receipts_within bucket before ≡ r ∷ receipts_within bucket after
within_gives None r before after e t = e
within_gives (Some b) r before after e t =
    ap (receipts_in b) e ∙ ap (λ k. cond k (r ∷ receipts_in b after) (receipts_in b after)) t

-- If no receipts are lent any more, the bucket has no receipts.
pub within_none : (bucket : Option ℕ) (lent : List Receipt) → lent ≡ [] → receipts_within bucket lent ≡ []
within_none None lent e = e
within_none (Some b) lent e = ap (receipts_in b) e
