-- What a replica asks, a line can ask; and what it answers to such a have is an answer.
use Rattle.std.proofs.Common.{◌≡◌, ℕ, ◌+◌, ◌*◌, ◌<◌, ◌≤◌, Bool, true, false, cond, List, [], ◌∷◌, ◌++◌, codes, decimal}
use Rattle.std.proofs.Common.{length, length-append, map, refl, arith}
use Rattle.std.specs.Prelude.{filter}
use Rattle.std.specs.List.{AllByRecursion, join_by}
use Rattle.std.proofs.lemmas.List.{length-take}
use Rattle.std.proofs.lemmas.List.Kept.{IsStrictlySortedBy-filter}
use Rattle.std.proofs.lemmas.List.Sums.{count_by-le-length, length-filter}
use Rattle.hex.specs.Hex.{encode_lower}
use Rattle.sha2.specs.Sha256.{sha256}
use Rattle.sha2.proofs.Facts256.{length-sha256}
use Rattle.fed_config.specs.Configuration.{Configuration, config_id_of}
use Rattle.receipt_core.specs.Order.{receipt_total, distrust_total}
use Rattle.receipt_core.specs.Receipt.{Receipt, IsDigest, IsReceipt, line, receipt_cmp, receipt_id_of}
use Rattle.receipt_core.specs.Acceptance.{IsFitting, Meaning, IsMeaning}
use Rattle.receipt_core.proofs.HexFacts.{length-encode_lower}
use Rattle.receipt_core.proofs.LineFacts.{distrust_order, record_first}
use Rattle.receipt_core.proofs.RisingFacts.{with_items-all}
use Rattle.replica_core.specs.State.{State, id_cmp, ids_held, ids_named, is_of_bucket, most_named, receipts_lacking}
use Rattle.replica_core.specs.Session.{HaveMessage, have_of, give_of, state_of}
use Rattle.replica_core.proofs.BucketFacts.{digest-bytes}
use Rattle.replica_core.proofs.ContainsFacts.{take-each}
use Rattle.replica_core.proofs.HaveFacts.{named-ids-rise}
use Rattle.replica_texts.specs.Messages.{as_any_have, any_have_text, quoted}
use Rattle.replica_texts.specs.Haves.{IsAskable}
use Rattle.replica_texts.specs.Gives.{IsGive}
use Rattle.replica_texts.proofs.GiveFacts.{short-number}
use Rattle.replica_texts.proofs.HeldFacts.{lines_rise}
use Rattle.replica_texts.proofs.IdListFacts.{later_text, length-quoted}
use Rattle.receipt_core.proofs.LimitFacts.{receipt_limit-most, record_limit-most}

-- ---- digests

-- A digest consists of bytes.
octets-of : (text : List ℕ) → AllByRecursion (λ b. b < 256) (sha256 text)
unfolding sha256
octets-of text = digest-bytes _ 8

-- What SHA-256 gives has the form of a digest.
digest-of : (text : List ℕ) → IsDigest (sha256 text)
digest-of text = record { size = length-sha256 text; octets = octets-of text }

-- So has the digest of a configuration.
config-digest : (c : Configuration) → IsDigest (config_id_of c)
unfolding config_id_of
config-digest c = digest-of _

-- So has the id of a receipt.
id-digest : (r : Receipt) → IsDigest (receipt_id_of r)
unfolding receipt_id_of
id-digest r = digest-of (line r)

-- So have the ids of receipts.
all-ids : (rs : List Receipt) → AllByRecursion IsDigest (map receipt_id_of rs)
all-ids [] = tt
all-ids (r ∷ rs) = (id-digest r, all-ids rs)

-- ---- haves

-- each id has 64 digits, two quotes, and a comma before it
length-later : (ids : List (List ℕ)) → AllByRecursion IsDigest ids → length (later_text ids) ≡ 67 * length ids
length-later [] h = refl
length-later (id ∷ ids) h =
    let one = length-quoted id h.0 in
    let rest = length-later ids h.1 in
    let both = length-append (codes "," ++ quoted id) (later_text ids) in
    omega (arith, one, rest, both)

-- An id takes 67 bytes of the line, with its quotes and its comma.
length-ids : (ids : List (List ℕ)) → AllByRecursion IsDigest ids → length (join_by quoted (codes ",") ids) ≤ 67 * length ids
length-ids [] h = omega arith
length-ids (id ∷ ids) h =
    let one = length-quoted id h.0 in
    let rest = length-later ids h.1 in
    let both = length-append (quoted id) (later_text ids) in
    omega (arith, one, rest, both)

-- How long the line of a have is, piece by piece.
asked-length : (b c f i k : List ℕ)
    → length (codes "{\"bucket\":" ++
    (b ++ (codes ",\"config\":\"" ++ (c ++ (codes "\",\"format\":" ++
    (f ++ (codes ",\"have\":[" ++ (i ++ (codes "],\"of\":" ++ (k ++ codes "}"))))))))))
    ≡ length b + length c + length f + length i + length k + 49
asked-length b c f i k = simp length-append (omega arith)

-- The line of a have is within the bound of lines.
short-asked : (q : HaveMessage) → q.bucket < 256 → IsDigest q.config → AllByRecursion IsDigest q.ids → length q.ids ≤ most_named
    → length (any_have_text (as_any_have q)) ≤ 8388608
unfolding any_have_text
short-asked q below config ids few =
    let whole = asked-length (decimal q.bucket) (encode_lower q.config) (decimal 2) (join_by quoted (codes ",") q.ids) (decimal 256) in
    let bucket = short-number q.bucket (omega (arith, below)) in
    let digest = length-encode_lower q.config config in
    let format = short-number 2 (omega arith) in
    let list = length-ids q.ids ids in
    let buckets = short-number 256 (omega arith) in
    omega (arith, whole, bucket, digest, format, list, buckets, few)

-- The ids that a have names have the form of digests.
ids-digests : (state : State) (bucket : ℕ) → AllByRecursion IsDigest (ids_named state bucket)
ids-digests state bucket =
    take-each IsDigest most_named (ids_held state bucket)
    (with_items-all IsDigest id_cmp (map receipt_id_of (filter (is_of_bucket bucket) state.held)) []
    (all-ids (filter (is_of_bucket bucket) state.held)) tt)

-- A have names at most 65,536 ids.
few-ids : (state : State) (bucket : ℕ) → length (ids_named state bucket) ≤ most_named
few-ids state bucket = let few = length-take most_named (ids_held state bucket) in omega (arith, few)

-- What a replica asks about a bucket, a line can ask.
pub askable-have : (m : Meaning) (bucket : ℕ) → IsMeaning m → bucket < 256 → IsAskable (have_of m bucket)
askable-have m bucket valid below = record {
  asked = record {
    bucket = below;
    format = omega arith;
    buckets = omega arith;
    config = config-digest m.config;
    ids = ids-digests (state_of m) bucket;
    rising = named-ids-rise (state_of m) bucket;
  };
  short = short-asked (have_of m bucket) below (config-digest m.config) (ids-digests (state_of m) bucket) (few-ids (state_of m) bucket);
}

-- ---- answers

-- A filter keeps no more than there were.
kept-few : {A : Type 0} (p : A → Bool) (xs : List A) → length (filter p xs) ≤ length xs
kept-few p xs = let kept = length-filter p xs in let few = count_by-le-length p xs in omega (arith, kept, few)

-- One step of `filter-all`, for either outcome of the test.
kept-all : {A : Type 0} (P : A → Type 0) (b : Bool) (x : A) (xs : List A) → P x → AllByRecursion P xs → AllByRecursion P (cond b (x ∷ xs) xs)
kept-all P true x xs p h = (p, h)
kept-all P false x xs p h = h

-- What holds of all items holds of those that a filter keeps.
filter-all : {A : Type 0} (P : A → Type 0) (p : A → Bool) (xs : List A) → AllByRecursion P xs → AllByRecursion P (filter p xs)
filter-all P p [] h = tt
filter-all P p (x ∷ xs) h = kept-all P (p x) x (filter p xs) h.0 (filter-all P p xs h.1)

-- what a replica holds, with some of its receipts only
kept-meaning : (m : Meaning) (p : Receipt → Bool) → IsMeaning m
    → IsMeaning (record { config = m.config; held = filter p m.held; records = m.records })
kept-meaning m p valid = record {
  receipts = filter-all IsReceipt p m.held valid.receipts;
  rising = IsStrictlySortedBy-filter receipt_cmp p m.held valid.rising;
  fitting = filter-all (IsFitting m.config) p m.held valid.fitting;
  few = let kept = kept-few p m.held in let few = valid.few in omega (arith, kept, few);
  distrusts = valid.distrusts;
  records_rising = valid.records_rising;
  domains = valid.domains;
  few_records = valid.few_records;
}

-- the meaning of which an answer gives all
abbrev given : Meaning → HaveMessage → Meaning
given m q = record { config = m.config; held = receipts_lacking (state_of m) q.bucket q.ids; records = m.records }

-- What an answer gives can be held.
given-meaning : (m : Meaning) (q : HaveMessage) → IsMeaning m → IsMeaning (given m q)
given-meaning m q valid = kept-meaning m _ valid

-- What a replica answers to a have that a line can ask is an answer.
pub answer-given : (m : Meaning) (q : HaveMessage) → IsMeaning m → IsAskable q → IsGive (give_of m q)
answer-given m q valid is =
    let all = given-meaning m q valid in
    let few = all.few in
    let few_records = all.few_records in
    record {
      header = record {
        bucket = is.asked.bucket;
        count = omega (arith, few, receipt_limit-most m.config);
        records = omega (arith, few_records, record_limit-most m.config);
        format = omega arith;
        buckets = omega arith;
        config = config-digest m.config;
      };
      valid = record { receipts = all.receipts; records = all.distrusts };
      rising = lines_rise receipt_total distrust_total distrust_order record_first (given m q) all;
    }
