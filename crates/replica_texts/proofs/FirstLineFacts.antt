-- A first line says one thing.
use Rattle.std.proofs.Common.{◌≡◌, ℕ, ◌<◌, ◌^◌, false, List, [], ◌∷◌, ◌++◌, drop, codes, decimal, Option, None, Some}
use Rattle.std.proofs.Common.{Ok, refl, ap, sym, ◌∙◌, arith, append_assoc}
use Rattle.std.specs.Prelude.{IfSome}
use Rattle.std.specs.Char.{is_ascii_digit}
use Rattle.std.specs.List.{AllByRecursion, join_by}
use Rattle.std.proofs.lemmas.Fmt.{decimal_injective}
use Rattle.std.proofs.lemmas.List.{append_cancel_left}
use Rattle.hex.specs.Hex.{encode_lower, decode_sized}
use Rattle.receipt_core.specs.Receipt.{IsDigest}
use Rattle.receipt_core.proofs.HexFacts.{decode_sized-encode_lower}
use Rattle.replica_texts.specs.Messages.{AnyHave, GiveHeader, distrusts_part, quoted, give_header_text}
use Rattle.replica_texts.specs.FirstLines.{IsAnyHaveLine, IsGiveHeaderLine}
use Rattle.replica_texts.proofs.HaveLineFacts.{after_bucket, after_config, after_format, after_ids, small-bucket, whole-line}
use Rattle.replica_texts.proofs.IdListFacts.{later_text}
use Rattle.replica_texts.proofs.ScanFacts.{AreDecimal, both-truths, each-decimal, split-digest}
use Rattle.replica_texts.proofs.GiveHeaderFacts.{few-records, format_label, no-records, part-begins, records_label}

-- ---- numbers

-- For one text, the digits up to the first other byte are one.
one-seam : (xs ys : List ℕ) (stop end : ℕ) (more rest : List ℕ) → AreDecimal xs → AreDecimal ys → is_ascii_digit stop ≡ false → is_ascii_digit end ≡ false
    → xs ++ (stop ∷ more) ≡ ys ++ (end ∷ rest) → (xs ≡ ys) × (stop ∷ more ≡ end ∷ rest)
one-seam [] [] stop end more rest p q h k e = (refl, e)
one-seam [] (y ∷ ys) stop end more rest p q h k e = let head : stop ≡ y = cc in absurd (both-truths (is_ascii_digit y) q.0 (sym (ap is_ascii_digit head) ∙ h))
one-seam (x ∷ xs) [] stop end more rest p q h k e = let head : x ≡ end = cc in absurd (both-truths (is_ascii_digit x) p.0 (ap is_ascii_digit head ∙ k))
one-seam (x ∷ xs) (y ∷ ys) stop end more rest p q h k e =
    let head : x ≡ y = cc in
    let tail : xs ++ (stop ∷ more) ≡ ys ++ (end ∷ rest) = cc in
    let later = one-seam xs ys stop end more rest p.1 q.1 h k tail in
    ((λ i. head i ∷ later.0 i), later.1)

-- A number that is followed by something else than a digit is one number.
one-number : (m n stop end : ℕ) (more rest : List ℕ) → m < 2 ^ 64 → n < 2 ^ 64 → is_ascii_digit stop ≡ false → is_ascii_digit end ≡ false
    → decimal m ++ (stop ∷ more) ≡ decimal n ++ (end ∷ rest) → (m ≡ n) × (stop ∷ more ≡ end ∷ rest)
one-number m n stop end more rest p q h k e =
    let parts = one-seam (decimal m) (decimal n) stop end more rest (each-decimal m p) (each-decimal n q) h k e in
    (decimal_injective m n p q parts.0, parts.1)

-- ---- digests

-- The digits of a digest are those of one digest.
one-digest : (a b more rest : List ℕ) → IsDigest a → IsDigest b → encode_lower a ++ more ≡ encode_lower b ++ rest → (a ≡ b) × (more ≡ rest)
one-digest a b more rest p q e =
    let here = split-digest (encode_lower a ++ more) a more p refl in
    let there = split-digest (encode_lower a ++ more) b rest q e in
    let texts : encode_lower a ≡ encode_lower b = sym here.0 ∙ there.0 in
    let decoded : Ok a ≡ Ok b = sym (decode_sized-encode_lower a p) ∙ ap (λ t. decode_sized t 32) texts ∙ decode_sized-encode_lower b q in
    let same : a ≡ b = cc in
    (same, sym here.1 ∙ there.1)

-- ---- ids

-- An id in quotation marks is one id.
one-quoted : (a b more rest : List ℕ) → IsDigest a → IsDigest b → quoted a ++ more ≡ quoted b ++ rest → (a ≡ b) × (more ≡ rest)
one-quoted a b more rest p q e =
    let inner : (encode_lower a ++ codes "\"") ++ more ≡ (encode_lower b ++ codes "\"") ++ rest = append_cancel_left (codes "\"") _ _ e in
    let parts = one-digest a b (codes "\"" ++ more) (codes "\"" ++ rest) p q
    (sym (append_assoc (encode_lower a) (codes "\"") more) ∙ inner ∙ append_assoc (encode_lower b) (codes "\"")
    rest) in
    (parts.0, append_cancel_left (codes "\"") more rest parts.1)

-- Ids with commas before them, up to the bracket, are one list.
one-later : (ids others : List (List ℕ)) (more rest : List ℕ) → AllByRecursion IsDigest ids
    → AllByRecursion IsDigest others → later_text ids ++ (93 ∷ more) ≡ later_text others ++ (93 ∷ rest)
    → (ids ≡ others) × (more ≡ rest)
one-later [] [] more rest p q e = (refl, append_cancel_left (93 ∷ []) more rest e)
one-later [] (o ∷ others) more rest p q e = let no : ◌≡◌ {A = ℕ} 93 44 = cc in absurd (omega (arith, no))
one-later (id ∷ ids) [] more rest p q e = let no : ◌≡◌ {A = ℕ} 44 93 = cc in absurd (omega (arith, no))
one-later (id ∷ ids) (o ∷ others) more rest p q e =
    let inner : (quoted id ++ later_text ids) ++ (93 ∷ more) ≡ (quoted o ++ later_text others) ++ (93 ∷ rest) = append_cancel_left (codes ",") _ _ e in
    let first = one-quoted id o (later_text ids ++ (93 ∷ more)) (later_text others ++ (93 ∷ rest)) p.0 q.0
    (sym (append_assoc (quoted id) (later_text ids) (93 ∷ more)) ∙ inner ∙ append_assoc (quoted o) (later_text others) (93 ∷ rest)) in
    let later = one-later ids others more rest p.1 q.1 first.1 in
    ((λ i. first.0 i ∷ later.0 i), later.1)

-- A list of ids up to its bracket is one list.
one-list : (ids others : List (List ℕ)) (more rest : List ℕ) → AllByRecursion IsDigest ids → AllByRecursion IsDigest others
    → join_by quoted (codes ",") ids ++ (93 ∷ more) ≡ join_by quoted (codes ",") others ++ (93 ∷ rest) → (ids ≡ others) × (more ≡ rest)
one-list [] [] more rest p q e = (refl, append_cancel_left (93 ∷ []) more rest e)
one-list [] (o ∷ others) more rest p q e = let no : ◌≡◌ {A = ℕ} 93 34 = cc in absurd (omega (arith, no))
one-list (id ∷ ids) [] more rest p q e = let no : ◌≡◌ {A = ℕ} 34 93 = cc in absurd (omega (arith, no))
one-list (id ∷ ids) (o ∷ others) more rest p q e =
    let first = one-quoted id o (later_text ids ++ (93 ∷ more)) (later_text others ++ (93 ∷ rest)) p.0 q.0
    (sym (append_assoc (quoted id) (later_text ids) (93 ∷ more)) ∙ e ∙ append_assoc (quoted o) (later_text others) (93 ∷ rest)) in
    let later = one-later ids others more rest p.1 q.1 first.1 in
    ((λ i. first.0 i ∷ later.0 i), later.1)

-- ---- haves

-- The line of a have asks one thing.
pub one-asked : (text : List ℕ) (a b : AnyHave) → IsAnyHaveLine text a → IsAnyHaveLine text b → a ≡ b
one-asked text a b p q =
    let whole = sym (whole-line text a p.spelt) ∙ whole-line text b q.spelt in
    let bucket = one-number a.have.bucket b.have.bucket 44 44 (after_bucket a) (after_bucket b)
    (small-bucket a p.is) (small-bucket b q.is) refl refl (append_cancel_left (codes "{\"bucket\":") _ _ whole) in
    let config = one-digest a.have.config b.have.config (after_config a) (after_config b) p.is.config
    q.is.config (append_cancel_left (codes ",\"config\":\"") _ _ bucket.1) in
    let format = one-number a.format b.format 44 44 (after_format a) (after_format b) p.is.format q.is.format refl
    refl (append_cancel_left (codes "\",\"format\":") _ _ config.1) in
    let ids = one-list a.have.ids b.have.ids (after_ids a) (after_ids b) p.is.ids q.is.ids (append_cancel_left (codes ",\"have\":[") _ _ format.1) in
    let buckets = one-number a.buckets b.buckets 125 125 [] [] p.is.buckets q.is.buckets refl refl (append_cancel_left (codes ",\"of\":") _ _ ids.1) in
    λ i. record { have = record { bucket = bucket.0 i; config = config.0 i; ids = ids.0 i }; format = format.0 i; buckets = buckets.0 i }

-- ---- answers

-- The part on records says one number, or no number.
one-part : (m n : Option ℕ) (more rest : List ℕ) → IfSome m (λ k. k < 2 ^ 64) → IfSome n (λ k. k < 2 ^ 64)
    → distrusts_part m ++ (format_label ++ more) ≡ distrusts_part n ++ (format_label ++ rest) → (m ≡ n) × (more ≡ rest)
one-part None None more rest p q e = (refl, append_cancel_left format_label more rest e)
one-part None (Some n) more rest p q e =
    absurd (no-records (format_label ++ more) (decimal n ++ (format_label ++ rest)) more
    (e ∙ append_assoc records_label (decimal n) (format_label ++ rest)) refl)
one-part (Some m) None more rest p q e =
    absurd (no-records (format_label ++ rest) (decimal m ++ (format_label ++ more)) rest
    (sym e ∙ append_assoc records_label (decimal m) (format_label ++ more)) refl)
one-part (Some m) (Some n) more rest p q e =
    let both = sym (append_assoc records_label (decimal m) (format_label ++ more)) ∙ e ∙ append_assoc records_label (decimal n) (format_label ++ rest) in
    let number = one-number m n 44 44 (drop 1 (format_label ++ more)) (drop 1 (format_label ++ rest)) p q refl refl
    (append_cancel_left records_label _ _ both) in
    (ap Some number.0, append_cancel_left format_label more rest number.1)

-- The first line of an answer says one thing.
pub one-give-header : (text : List ℕ) (a b : GiveHeader) → IsGiveHeaderLine text a → IsGiveHeaderLine text b → a ≡ b
unfolding give_header_text
one-give-header text a b p q =
    let last : GiveHeader → List ℕ = λ t. codes ",\"of\":" ++ (decimal t.buckets ++ codes "}") in
    let later : GiveHeader → List ℕ = λ t. decimal t.format ++ last t in
    let follows : GiveHeader → List ℕ = λ t. distrusts_part t.distrusts ++ (format_label ++ later t) in
    let counted : GiveHeader → List ℕ = λ t. codes "\",\"count\":" ++ (decimal t.count ++ follows t) in
    let configured : GiveHeader → List ℕ = λ t. codes ",\"config\":\"" ++ (encode_lower t.config ++ counted t) in
    let few : a.bucket < 2 ^ 64 = let below = p.is.bucket in let many = p.is.buckets in omega (arith, below, many) in
    let few_too : b.bucket < 2 ^ 64 = let below = q.is.bucket in let many = q.is.buckets in omega (arith, below, many) in
    let whole : codes "{\"bucket\":" ++ (decimal a.bucket ++ configured a)
    ≡ codes "{\"bucket\":" ++ (decimal b.bucket ++ configured b) = sym p.spelt ∙ q.spelt in
    let bucket = one-number a.bucket b.bucket 44 44 (drop 1 (configured a)) (drop 1 (configured b)) few few_too refl
    refl (append_cancel_left (codes "{\"bucket\":") _ _ whole) in
    let config = one-digest a.config b.config (counted a) (counted b) p.is.config q.is.config (append_cancel_left (codes ",\"config\":\"") _ _ bucket.1) in
    let counts : decimal a.count ++ follows a ≡ decimal b.count ++ follows b = append_cancel_left (codes "\",\"count\":") _ _ config.1 in
    let count = one-number a.count b.count 44 44 (drop 1 (follows a)) (drop 1 (follows b)) p.is.count q.is.count refl refl
    (ap (λ t. decimal a.count ++ t) (sym (part-begins a.distrusts (later a))) ∙ counts ∙ ap (λ t. decimal b.count ++ t) (part-begins b.distrusts (later b))) in
    let records = one-part a.distrusts b.distrusts (later a) (later b) (few-records a.format a.distrusts p.is.records)
    (few-records b.format b.distrusts q.is.records)
    (part-begins a.distrusts (later a) ∙ count.1 ∙ sym (part-begins b.distrusts (later b))) in
    let format = one-number a.format b.format 44 44 (drop 1 (last a)) (drop 1 (last b)) p.is.format q.is.format refl refl records.1 in
    let buckets = one-number a.buckets b.buckets 125 125 [] [] p.is.buckets q.is.buckets refl refl (append_cancel_left (codes ",\"of\":") _ _ format.1) in
    λ i. record { bucket = bucket.0 i; config = config.0 i; count = count.0 i; distrusts = records.0 i; format = format.0 i; buckets = buckets.0 i }
