-- No first line has a line feed, and the first line of a stream is one.
use Rattle.std.proofs.Common.{◌≡◌, ◌≢◌, ℕ, ◌<◌, ◌^◌, true, List, [], ◌∷◌, ◌++◌, codes, decimal}
use Rattle.std.proofs.Common.{Option, None, Some, refl, ap, sym, ◌∙◌, arith}
use Rattle.std.specs.List.{AllByRecursion, join_by}
use Rattle.std.proofs.lemmas.List.{append_cancel_left}
use Rattle.std.proofs.lemmas.List.Elements.{All-from_recursion}
use Rattle.hex.specs.Hex.{encode_lower}
use Rattle.byte_lines.specs.Lines.{Lines, lines_of, with_line, HasLine, HasNoFeed}
use Rattle.receipt_core.specs.Receipt.{IsDigest}
use Rattle.receipt_core.proofs.HexFacts.{Above-encode_lower}
use Rattle.byte_lines.proofs.StreamFacts.{lines_of-line, lines_of-rest}
use Rattle.replica_texts.specs.Snapshots.{ended}
use Rattle.replica_texts.proofs.FeedFacts.{Feedless, feedless_both, feedless_decimal, feedless_by, is_feedless}
use Rattle.replica_texts.specs.Messages.{AnyHave, GiveHeader, any_have_text, distrusts_part, quoted, give_header_text}
use Rattle.replica_texts.specs.FirstLines.{IsAnyHave, IsRecordCount, IsGiveHeader}
use Rattle.replica_texts.proofs.HaveLineFacts.{small-bucket}
use Rattle.replica_texts.proofs.IdListFacts.{later_text}

-- ---- texts without a line feed

-- Bytes above the quotation mark are not a line feeds.
above-feed : (text : List ℕ) → AllByRecursion (λ b. 34 < b) text → Feedless text
above-feed [] h = tt
above-feed (b ∷ text) h = ((λ e. let above = h.0 in omega (arith, above, e)), above-feed text h.1)

-- The digits of a digest have no line feed among them.
feedless-digest : (digest : List ℕ) → IsDigest digest → Feedless (encode_lower digest)
feedless-digest digest is = above-feed (encode_lower digest) (Above-encode_lower digest is.octets)

-- An id in quotation marks has no line feed.
feedless-quoted : (id : List ℕ) → IsDigest id → Feedless (quoted id)
feedless-quoted id is =
    feedless_both (codes "\"") (encode_lower id ++ codes "\"") (feedless_by (codes "\"") refl)
    (feedless_both (encode_lower id) (codes "\"") (feedless-digest id is) (feedless_by (codes "\"") refl))

-- Ids with commas before them have no line feed.
feedless-later : (ids : List (List ℕ)) → AllByRecursion IsDigest ids → Feedless (later_text ids)
feedless-later [] h = tt
feedless-later (id ∷ ids) h =
    feedless_both (codes "," ++ quoted id) (later_text ids)
    (feedless_both (codes ",") (quoted id) (feedless_by (codes ",") refl) (feedless-quoted id h.0))
    (feedless-later ids h.1)

-- A list of ids has no line feed.
feedless-ids : (ids : List (List ℕ)) → AllByRecursion IsDigest ids → Feedless (join_by quoted (codes ",") ids)
feedless-ids [] h = tt
feedless-ids (id ∷ ids) h = feedless_both (quoted id) (later_text ids) (feedless-quoted id h.0) (feedless-later ids h.1)

-- The part on records has no line feed.
feedless-part : (format : ℕ) (distrusts : Option ℕ) → IsRecordCount format distrusts → Feedless (distrusts_part distrusts)
feedless-part format None h = tt
feedless-part format (Some n) h = feedless_both (codes ",\"distrusts\":") (decimal n) (feedless_by (codes ",\"distrusts\":") refl) (feedless_decimal n h)

-- A label without a line feed, and more without one, have none.
labelled : (label rest : List ℕ) → is_feedless label ≡ true → Feedless rest → Feedless (label ++ rest)
labelled label rest plain h = feedless_both label rest (feedless_by label plain) h

-- ---- first lines

-- The line of a have has no line feed.
feedless-asked : (a : AnyHave) → IsAnyHave a → Feedless (any_have_text a)
unfolding any_have_text
feedless-asked a is =
    labelled (codes "{\"bucket\":") _ refl (feedless_both (decimal a.have.bucket) _ (feedless_decimal a.have.bucket (small-bucket a is))
    (labelled (codes ",\"config\":\"") _ refl (feedless_both (encode_lower a.have.config) _ (feedless-digest a.have.config is.config)
    (labelled (codes "\",\"format\":") _ refl (feedless_both (decimal a.format) _ (feedless_decimal a.format is.format)
    (labelled (codes ",\"have\":[") _ refl (feedless_both (join_by quoted (codes ",") a.have.ids) _ (feedless-ids a.have.ids is.ids)
    (labelled (codes "],\"of\":") _ refl (feedless_both (decimal a.buckets) _ (feedless_decimal a.buckets is.buckets) (feedless_by (codes "}") refl))))))))))

-- The first line of an answer has no line feed.
feedless-give-header : (t : GiveHeader) → IsGiveHeader t → Feedless (give_header_text t)
unfolding give_header_text
feedless-give-header t is =
    let few : t.bucket < 2 ^ 64 = let below = is.bucket in let many = is.buckets in omega (arith, below, many) in
    labelled (codes "{\"bucket\":") _ refl (feedless_both (decimal t.bucket) _ (feedless_decimal t.bucket few)
    (labelled (codes ",\"config\":\"") _ refl (feedless_both (encode_lower t.config) _ (feedless-digest t.config is.config)
    (labelled (codes "\",\"count\":") _ refl (feedless_both (decimal t.count) _ (feedless_decimal t.count is.count)
    (feedless_both (distrusts_part t.distrusts) _ (feedless-part t.format t.distrusts is.records)
    (labelled (codes ",\"format\":") _ refl (feedless_both (decimal t.format) _ (feedless_decimal t.format is.format)
    (labelled (codes ",\"of\":") _ refl (feedless_both (decimal t.buckets) _ (feedless_decimal t.buckets is.buckets) (feedless_by (codes "}") refl)))))))))))

-- A text without a line feed, as streams state it.
pub plain : (text : List ℕ) → Feedless text → HasNoFeed text
plain text h = All-from_recursion (λ b. b ≢ 10) text h

-- The line of a have has no line feed, as streams state it.
pub plain-asked : (a : AnyHave) → IsAnyHave a → HasNoFeed (any_have_text a)
plain-asked a is = plain (any_have_text a) (feedless-asked a is)

-- The first line of an answer has no line feed, as streams state it.
pub plain-give-header : (t : GiveHeader) → IsGiveHeader t → HasNoFeed (give_header_text t)
plain-give-header t is = plain (give_header_text t) (feedless-give-header t is)

-- ---- the first line of a stream

-- Two texts with the same first line, and the same after it.
pub record IsSameLine (text other after since : List ℕ) : Type 0 where
  pub line : text ≡ other
  pub rest : after ≡ since

-- A text with its line feed is the first line of what begins with it.
pub first-of : (bytes text after : List ℕ) → HasNoFeed text → bytes ≡ ended text ++ after → lines_of bytes ≡ with_line text (lines_of after)
first-of bytes text after none e = ap lines_of e ∙ lines_of-line text after none

-- What begins with two lines begins with one line twice, and the same follows.
pub same-line : (bytes text other after since : List ℕ) → HasNoFeed text → HasNoFeed other → bytes ≡ ended text ++ after
    → bytes ≡ ended other ++ since → IsSameLine text other after since
same-line bytes text other after since p q e f =
    let both : with_line text (lines_of after) ≡ with_line other (lines_of since) = sym (first-of bytes text after p e) ∙ first-of bytes other since q f in
    let wholes : text ∷ (lines_of after).whole ≡ other ∷ (lines_of since).whole = ap (λ (l : Lines). l.whole) both in
    let heads : text ≡ other = cc in
    record { line = heads; rest = append_cancel_left (ended other) after since (ap (λ t. ended t ++ after) (sym heads) ∙ sym e ∙ f) }

-- a stream that begins with a line has a first line
pub no-first : (bytes text after : List ℕ) → HasNoFeed text → bytes ≡ ended text ++ after → HasNoFeed bytes → ⊥
no-first bytes text after p e none =
    let lines : [] ≡ text ∷ (lines_of after).whole = ap (λ (l : Lines). l.whole) (sym (lines_of-rest bytes none) ∙ first-of bytes text after p e) in
    cc

-- the first line of a stream is the one that it begins with
pub is-first : (bytes text after other : List ℕ) (new : Option (List ℕ)) → HasNoFeed text → bytes ≡ ended text ++ after
    → HasLine (Some bytes) new other → (other ≡ text) × (new ≡ Some after)
is-first bytes text after other None p e is = absurd is.1
is-first bytes text after other (Some since) p e is =
    let same = same-line bytes other text since after is.0 p is.1 e in
    (same.line, ap Some same.rest)
