-- The lines of haves, from their parts and back.
use Rattle.std.proofs.Common.{◌≡◌, ℕ, ◌<◌, ◌^◌, List, [], ◌∷◌, ◌++◌, codes, decimal, arith}
use Rattle.std.specs.List.{join_by}
use Rattle.hex.specs.Hex.{encode_lower}
use Rattle.replica_texts.specs.Messages.{AnyHave, any_have_text, quoted}
use Rattle.replica_texts.specs.FirstLines.{IsAnyHave}

-- what comes after the list of ids
abbrev pub after_ids : AnyHave → List ℕ
after_ids a = codes ",\"of\":" ++ (decimal a.buckets ++ (125 ∷ []))

-- what comes after the format
abbrev pub after_format : AnyHave → List ℕ
after_format a = codes "\"have\":[" ++ (join_by quoted (codes ",") a.have.ids ++ (93 ∷ after_ids a))

-- what comes after the digest
abbrev pub after_config : AnyHave → List ℕ
after_config a = codes "\",\"format\":" ++ (decimal a.format ++ (44 ∷ after_format a))

-- what comes after the bucket
abbrev pub after_bucket : AnyHave → List ℕ
after_bucket a = codes "\"config\":\"" ++ (encode_lower a.have.config ++ after_config a)

-- The line of a have, in the parts in which it is read.
pub whole-line : (text : List ℕ) (a : AnyHave) → text ≡ any_have_text a → text ≡ codes "{\"bucket\":" ++ (decimal a.have.bucket ++ (44 ∷ after_bucket a))
unfolding any_have_text
whole-line text a e = e

-- The number of the bucket has 64 bits.
pub small-bucket : (a : AnyHave) → IsAnyHave a → a.have.bucket < 2 ^ 64
small-bucket a is = let below = is.bucket in let few = is.buckets in omega (arith, below, few)
