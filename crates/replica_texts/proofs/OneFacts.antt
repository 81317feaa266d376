-- A stream is the text of one set.
use Rattle.std.proofs.Common.{◌≡◌, ℕ, ◌<◌, ◌^◌, List, [], ◌∷◌, ◌++◌, length, map, decimal, codes, Some, refl, ap, sym}
use Rattle.std.proofs.Common.{◌∙◌, subst, arith, append_assoc, append-nil, get_or}
use Rattle.std.specs.List.{AllByRecursion}
use Rattle.std.proofs.lemmas.List.{append_cancel_left}
use Rattle.std.proofs.lemmas.List.Concat.{flat_map-cons}
use Rattle.std.proofs.lemmas.List.Elements.{All-from_recursion}
use Rattle.std.proofs.lemmas.Fmt.{decimal_digit}
use Rattle.std.specs.Ordering.{nat_cmp}
use Rattle.std.specs.Cmp.{tied_itself}
use Rattle.std.specs.Cmp.Lexicographic.{slice_cmp, nat_list_cmp_total}
use Rattle.std.specs.declared.cmp.Ordering.TheVariants.{Less, Equal}
use Rattle.hex.specs.Hex.{encode_lower}
use Rattle.fed_config.specs.Configuration.{Configuration, config_id_of}
use Rattle.closure_core.proofs.AlikeFacts.{one_digest, same_turned}
use Rattle.receipt_core.specs.declared.distrust.Distrust.{Distrust}
use Rattle.receipt_core.specs.Receipt.{Receipt, IsReceipt, line, IsDistrust, distrust_line}
use Rattle.receipt_core.specs.Acceptance.{Meaning, IsMeaning}
use Rattle.byte_lines.specs.Lines.{Lines, lines_of, with_line}
use Rattle.byte_lines.proofs.StreamFacts.{lines_of-line}
use Rattle.receipt_core.proofs.LineFacts.{one_line, one_record, record_first}
use Rattle.replica_core.proofs.RisingListFacts.{all_append}
use Rattle.replica_texts.specs.Snapshots.{IsSnapshot, header_line, header_of, version_of, digits_of, count_line, count_of, count_beginning, records_part, ended}
use Rattle.replica_texts.specs.Snapshots.{text_of_lines, held_lines, snapshot_text}
use Rattle.replica_texts.specs.declared.format.Format.{Format}
use Rattle.replica_texts.specs.declared.format.Format.TheVariants.{First, Second}
use Rattle.replica_texts.proofs.WritingFacts.{lines_append}
use Rattle.replica_texts.proofs.FeedFacts.{Feedless, feedless_both, feedless_decimal, feedless_line, feedless_record}
use Rattle.receipt_core.proofs.LimitFacts.{receipt_limit-most, record_limit-most}
use Rattle.closure_core.specs.Alike.{AreAlike, IsSameTrust}

-- ---- the lines of a text

-- From the text of lines without line feeds the lines come back.
pub lines_back : (texts : List (List ℕ)) (after : List ℕ) → AllByRecursion Feedless texts
    → lines_of (text_of_lines texts ++ after) ≡ record { whole = texts ++ (lines_of after).whole; rest = (lines_of after).rest }
lines_back [] after h = refl
lines_back (t ∷ texts) after h =
    ap lines_of (ap (λ bytes. bytes ++ after) (flat_map-cons ended t texts) ∙ append_assoc (ended t) (text_of_lines texts) after)
    ∙ lines_of-line t (text_of_lines texts ++ after) (All-from_recursion (λ b. b ≡ 10 → ⊥) t h.0)
    ∙ ap (with_line t) (lines_back texts after h.1)

-- ---- what has the same lines is the same

-- From the lines of receipts the receipts come back.
receipts_back : (rs ss : List Receipt) → AllByRecursion IsReceipt rs → AllByRecursion IsReceipt ss → map line rs ≡ map line ss → rs ≡ ss
receipts_back [] [] ps qs e = refl
receipts_back [] (s ∷ ss) ps qs e = absurd (cc)
receipts_back (r ∷ rs) [] ps qs e = absurd (cc)
receipts_back (r ∷ rs) (s ∷ ss) ps qs e =
    let head : line r ≡ line s = cc in
    let tail : map line rs ≡ map line ss = cc in
    (λ i. one_line r s ps.0 qs.0 head i ∷ receipts_back rs ss ps.1 qs.1 tail i)

-- No record has the line of a receipt.
pub apart : (x : Distrust) (r : Receipt) → IsDistrust x → IsReceipt r → distrust_line x ≡ line r → ⊥
apart x r p q e =
    let less : slice_cmp nat_cmp (distrust_line x) (line r) ≡ Less = record_first x r p q in
    let same : slice_cmp nat_cmp (distrust_line x) (line r) ≡ Equal =
    ap (slice_cmp nat_cmp (distrust_line x)) (sym e) ∙ tied_itself nat_list_cmp_total (distrust_line x) in
    cc

-- the same records and the same receipts
pub record Same (xs ys : List Distrust) (rs ss : List Receipt) : Type 0 where
  pub records : xs ≡ ys
  pub receipts : rs ≡ ss

-- From the lines of what is held both sets come back.
pub held_back : (xs ys : List Distrust) (rs ss : List Receipt) → AllByRecursion IsDistrust xs
    → AllByRecursion IsDistrust ys → AllByRecursion IsReceipt rs → AllByRecursion IsReceipt ss
    → map distrust_line xs ++ map line rs ≡ map distrust_line ys ++ map line ss → Same xs ys rs ss
held_back [] [] rs ss p q h k e = record { records = refl; receipts = receipts_back rs ss h k e }
held_back [] (y ∷ ys) [] ss p q h k e = absurd (cc)
held_back [] (y ∷ ys) (r ∷ rs) ss p q h k e = absurd (apart y r q.0 h.0 (let head : distrust_line y ≡ line r = cc in head))
held_back (x ∷ xs) [] rs [] p q h k e = absurd (cc)
held_back (x ∷ xs) [] rs (s ∷ ss) p q h k e = absurd (apart x s p.0 k.0 (let head : distrust_line x ≡ line s = cc in head))
held_back (x ∷ xs) (y ∷ ys) rs ss p q h k e =
    let head : distrust_line x ≡ distrust_line y = cc in
    let tail : map distrust_line xs ++ map line rs ≡ map distrust_line ys ++ map line ss = cc in
    let rest = held_back xs ys rs ss p.1 q.1 h k tail in
    record { records = (λ i. one_record x y p.0 q.0 head i ∷ rest.records i); receipts = rest.receipts }

-- ---- one snapshot

-- the text's lines without their line feeds
abbrev pub all_lines : Format → Meaning → List (List ℕ)
all_lines format m = header_line format m.config ∷ (held_lines m ++ count_line format m ∷ [])

-- A snapshot is the text of its lines.
pub snapshot_lines : (format : Format) (m : Meaning) → snapshot_text format m ≡ text_of_lines (all_lines format m)
snapshot_lines format m =
    append_assoc (ended (header_line format m.config)) (text_of_lines (held_lines m)) (ended (count_line format m))
    ∙ ap (λ t. ended (header_line format m.config) ++ (text_of_lines (held_lines m) ++ t)) (sym (append-nil (ended (count_line format m))))
    ∙ ap (λ t. ended (header_line format m.config) ++ (text_of_lines (held_lines m) ++ t)) (sym (flat_map-cons ended (count_line format m) []))
    ∙ ap (λ t. ended (header_line format m.config) ++ t) (sym (lines_append (held_lines m) (count_line format m ∷ [])))
    ∙ sym (flat_map-cons ended (header_line format m.config) (held_lines m ++ count_line format m ∷ []))

-- ---- the last line and the first

-- If no item's text has a line feed, no line of the list has.
pub feedless_all : {A : Type 0} (P : A → Type 0) (text : A → List ℕ) → ((a : A) → P a → Feedless (text a)) → (xs : List A)
    → AllByRecursion P xs → AllByRecursion Feedless (map text xs)
feedless_all P text each [] h = tt
feedless_all P text each (x ∷ xs) h = (each x h.0, feedless_all P text each xs h.1)

-- The part on records has no line feed.
feedless_records_part : (format : Format) (records : ℕ) → records < 2 ^ 64 → Feedless (records_part format records)
feedless_records_part First records h = tt
feedless_records_part Second records h = feedless_both (codes ",\"distrusts\":") (decimal records) (plain_label) (feedless_decimal records h)
  where
    plain_label : Feedless (codes ",\"distrusts\":")
    plain_label = (
      (λ e. omega arith),
      (
        (λ e. omega arith),
        (
          (λ e. omega arith),
          (
            (λ e. omega arith),
            (
              (λ e. omega arith),
              (
                (λ e. omega arith),
                (
                  (λ e. omega arith),
                  (
                    (λ e. omega arith),
                    (
                      (λ e. omega arith),
                      ((λ e. omega arith), ((λ e. omega arith), ((λ e. omega arith), ((λ e. omega arith), tt)))),
                    ),
                  ),
                ),
              ),
            ),
          ),
        ),
      ),
    )

-- The last line has no line feed.
pub feedless_count : (format : Format) (receipts records : ℕ) → receipts < 2 ^ 64 → records < 2 ^ 64 → Feedless (count_of format receipts records)
unfolding count_of
feedless_count format receipts records h k =
    feedless_both count_beginning (decimal receipts ++ (records_part format records ++ codes "}")) (
      (λ e. omega arith),
      (
        (λ e. omega arith),
        (
          (λ e. omega arith),
          (
            (λ e. omega arith),
            (
              (λ e. omega arith),
              ((λ e. omega arith), ((λ e. omega arith), ((λ e. omega arith), ((λ e. omega arith), tt)))),
            ),
          ),
        ),
      ),
    )
    (feedless_both (decimal receipts) (records_part format records ++ codes "}") (feedless_decimal receipts h)
    (feedless_both (records_part format records) (codes "}") (feedless_records_part format records k) ((λ e. omega arith), tt)))

-- No line of what is held has a line feed.
pub feedless_held : (m : Meaning) → IsMeaning m → AllByRecursion Feedless (held_lines m)
feedless_held m valid =
    all_append Feedless (map distrust_line m.records) (map line m.held)
    (feedless_all IsDistrust distrust_line (λ x h. feedless_record x) m.records valid.distrusts)
    (feedless_all IsReceipt line feedless_line m.held valid.receipts)

-- No line after the first has a line feed.
pub feedless_after : (format : Format) (m : Meaning) → IsMeaning m → AllByRecursion Feedless (held_lines m ++ count_line format m ∷ [])
feedless_after format m valid =
    all_append Feedless (held_lines m) (count_line format m ∷ []) (feedless_held m valid) (
      feedless_count format (length m.held) (length m.records) (omega (arith, valid.few, receipt_limit-most m.config))
          (omega (arith, valid.few_records, record_limit-most m.config)),
      tt,
    )

-- The pieces of a first line with its line feed, in other brackets.
regrouped : (a d b n c rest : List ℕ) → ended (a ++ (d ++ (b ++ (n ++ c)))) ++ rest ≡ a ++ (d ++ (b ++ (n ++ (c ++ ((10 ∷ []) ++ rest)))))
regrouped a d b n c rest = simp append_assoc

-- First lines of the two formats differ.
pub formats_apart : (digits rest other : List ℕ) → ended (header_of digits (decimal 1)) ++ rest ≡ ended (header_of digits (decimal 2)) ++ other → ⊥
unfolding header_of
formats_apart digits rest other e =
    let a = codes "{\"config\":\"" in
    let b = codes "\",\"format\":" in
    let tail : List ℕ → List ℕ = λ r. codes "}" ++ ((10 ∷ []) ++ r) in
    let both = sym (regrouped a digits b (decimal 1) (codes "}") rest) ∙ e ∙ regrouped a digits b (decimal 2) (codes "}") other in
    let follows = append_cancel_left digits (b ++ (decimal 1 ++ tail rest)) (b ++ (decimal 2 ++ tail other))
    (append_cancel_left a (digits ++ (b ++ (decimal 1 ++ tail rest))) (digits ++ (b ++ (decimal 2 ++ tail other)))
    both) in
    let numbers : decimal 1 ++ tail rest ≡ decimal 2 ++ tail other = append_cancel_left b (decimal 1 ++ tail rest) (decimal 2 ++ tail other) follows in
    let heads : 49 ∷ tail rest ≡ 50 ∷ tail other =
    ap (λ n. n ++ tail rest) (sym (decimal_digit 1 (omega arith))) ∙ numbers
    ∙ ap (λ n. n ++ tail other) (decimal_digit 2 (omega arith)) in
    let no : 49 ≡ 50 = ap (λ (xs : List ℕ). get_or xs 0 0) heads in
    omega (arith, no)

-- The empty list is not one with an item in it.
pub no_end : (ys : List (List ℕ)) (b : List ℕ) (zs : List (List ℕ)) → [] ≡ ys ++ b ∷ zs → ⊥
no_end [] b zs e = cc
no_end (y ∷ ys) b zs e = cc

-- Lists with one more item each that are equal are equal without it.
front_same : (xs ys : List (List ℕ)) (a b : List ℕ) → xs ++ a ∷ [] ≡ ys ++ b ∷ [] → xs ≡ ys
front_same [] [] a b e = refl
front_same [] (y ∷ ys) a b e = let none : [] ≡ ys ++ b ∷ [] = cc in absurd (no_end ys b [] none)
front_same (x ∷ xs) [] a b e = let none : [] ≡ xs ++ a ∷ [] = cc in absurd (no_end xs a [] none)
front_same (x ∷ xs) (y ∷ ys) a b e =
    let head : x ≡ y = cc in
    let tail : xs ++ a ∷ [] ≡ ys ++ b ∷ [] = cc in
    (λ i. head i ∷ front_same xs ys a b tail i)

-- The first line does not say the limits.
header_alike : (format : Format) (b c : Configuration) → IsSameTrust b c → header_line format b ≡ header_line format c
header_alike format b c same = ap (λ id. header_of (encode_lower id) (decimal (version_of format))) (one_digest b c same)

-- Replicas that hold the same have one snapshot.
pub snapshot_alike : (format : Format) (m n : Meaning) → AreAlike m n → snapshot_text format m ≡ snapshot_text format n
snapshot_alike format m n alike =
    let digest : config_id_of m.config ≡ config_id_of n.config = one_digest m.config n.config alike.trust in
    λ i. (ended (header_of (encode_lower (digest i)) (decimal (version_of format)))
    ++ text_of_lines (map distrust_line (alike.records i) ++ map line (alike.held i)))
    ++ ended (count_of format (length (alike.held i)) (length (alike.records i)))

-- A snapshot of one format is that of one meaning, except for the limits.
one_format : (format : Format) (m n : Meaning) → IsSameTrust m.config n.config → IsMeaning m → IsMeaning n
    → snapshot_text format m ≡ snapshot_text format n → AreAlike m n
one_format format m n same p q e =
    let follows = λ (k : Meaning). held_lines k ++ count_line format k ∷ [] in
    let texts : text_of_lines (all_lines format m) ≡ text_of_lines (all_lines format n) = sym (snapshot_lines format m) ∙ e ∙ snapshot_lines format n in
    let split : ended (header_line format n.config) ++ text_of_lines (follows m) ≡ ended (header_line format n.config) ++ text_of_lines (follows n) =
    ap (λ h. ended h ++ text_of_lines (follows m)) (sym (header_alike format m.config n.config same))
    ∙ sym (flat_map-cons ended (header_line format m.config) (follows m)) ∙ texts
    ∙ flat_map-cons ended (header_line format n.config) (follows n) in
    let later : text_of_lines (follows m) ≡ text_of_lines (follows n) =
    append_cancel_left (ended (header_line format n.config)) (text_of_lines (follows m)) (text_of_lines (follows n))
    split in
    let left = lines_back (follows m) [] (feedless_after format m p) in
    let right = lines_back (follows n) [] (feedless_after format n q) in
    let wholes : follows m ++ [] ≡ follows n ++ [] = ap (λ (l : Lines). l.whole) (sym left ∙ ap (λ t. lines_of (t ++ [])) later ∙ right) in
    let fronts : held_lines m ≡ held_lines n =
    front_same (held_lines m) (held_lines n) (count_line format m) (count_line format n)
    (sym (append-nil (follows m)) ∙ wholes ∙ append-nil (follows n)) in
    let sets = held_back m.records n.records m.held n.held p.distrusts q.distrusts p.receipts q.receipts fronts in
    record { trust = same; held = sets.receipts; records = sets.records }

-- A snapshot is its first line, the lines of what is held, and the last line.
pub front_text : (format : Format) (m : Meaning)
    → snapshot_text format m ≡ ended (header_line format m.config) ++
    (text_of_lines (held_lines m) ++ ended (count_line format m))
front_text format m = append_assoc (ended (header_line format m.config)) (text_of_lines (held_lines m)) (ended (count_line format m))

-- No snapshot is of both formats.
other_format : (m n : Meaning) → IsSameTrust m.config n.config → snapshot_text First m ≡ snapshot_text Second n → ⊥
other_format m n same e =
    formats_apart (digits_of n.config) _ _
    (ap (λ h. ended h ++ (text_of_lines (held_lines m) ++ ended (count_line First m))) (sym (header_alike First m.config n.config same))
    ∙ sym (front_text First m) ∙ e ∙ front_text Second n)

-- A snapshot is that of one meaning, whatever the formats.
by_formats : (f k : Format) (m n : Meaning) → IsSameTrust m.config n.config
    → IsMeaning m → IsMeaning n → snapshot_text f m ≡ snapshot_text k n → AreAlike m n
by_formats First First m n same h j e = one_format First m n same h j e
by_formats First Second m n same h j e = absurd (other_format m n same e)
by_formats Second First m n same h j e = absurd (other_format n m (same_turned m.config n.config same) (sym e))
by_formats Second Second m n same h j e = one_format Second m n same h j e

-- a stream is the text of one set at most
pub one_set : (config own : Configuration) (bytes : List ℕ) (m n : Meaning) → IsSameTrust config own → IsSnapshot config (Some bytes) m
    → IsSnapshot own (Some bytes) n → AreAlike m n
one_set config own bytes m n same p q =
    by_formats p.format q.format m n
    (subst (λ (c : Configuration). IsSameTrust c n.config) (sym p.of_config) (subst (IsSameTrust config) (sym q.of_config) same))
    p.valid q.valid (sym p.text ∙ q.text)
