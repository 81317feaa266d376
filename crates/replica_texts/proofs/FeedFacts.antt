-- No line of a receipt or of a record has a line feed in it.
use Rattle.std.proofs.Common.{◌≡◌, ◌≢◌, ℕ, ◌+◌, ◌<◌, ◌^◌, ◌/◌, ◌%◌, ◌==◌, ◌||◌, Bool, true, false, cond, List, [], ◌∷◌}
use Rattle.std.proofs.Common.{◌++◌, ◌&&◌, not, codes, decimal, nat_lt, refl, subst, arith}
use Rattle.std.proofs.lemmas.Bool.{and_parts}
use Rattle.std.proofs.lemmas.Fmt.{decimal_by_steps}
use Rattle.std.specs.Char.{digit_char}
use Rattle.std.specs.List.{AllByRecursion}
use Rattle.hex.specs.Hex.{encode_lower}
use Rattle.json.specs.Print.{escape, escape_byte, escape_letter, quoted}
use Rattle.serde_json.specs.Data.{unsigned, negative, float, Data, null, boolean, number, string, array, object, Items}
use Rattle.serde_json.specs.Data.{no_items, item, Members, no_members, member}
use Rattle.serde_json.specs.Written.{compact_text, items_text, members_text, comma_if}
use Rattle.jwk_set.specs.Json.{IsPlain, ArePlain, HasPlainMembers}
use Rattle.bundle_doc.specs.Bundle.{document_tree}
use Rattle.bundle_doc.proofs.BundleFacts.{IsPlain-document_tree}
use Rattle.receipt_core.specs.declared.distrust.Distrust.{Distrust}
use Rattle.receipt_core.specs.Receipt.{Receipt, IsReceipt, line, distrust_line}

-- no byte is a line feed
abbrev pub Feedless : List ℕ → Type 0
Feedless = AllByRecursion (λ b. b ≢ 10)

-- A text of two parts without a line feed has none.
pub feedless_both : (xs ys : List ℕ) → Feedless xs → Feedless ys → Feedless (xs ++ ys)
feedless_both [] ys h k = k
feedless_both (x ∷ xs) ys h k = (h.0, feedless_both xs ys h.1 k)

-- ---- strings

-- No hexadecimal digit is a line feed.
digit_char_small : (p : Bool) (d : ℕ) → cond p (48 + d) (87 + d) ≢ 10
digit_char_small true d e = omega arith
digit_char_small false d e = omega arith

-- The three ways to write a byte in a string give no line feed.
escaped_cases : (short control : Bool) (b letter high low : ℕ) → letter ≢ 10 → high ≢ 10 → low ≢ 10 → (short ≡ false → control ≡ false → b ≢ 10)
    → Feedless (cond short (92 ∷ letter ∷ []) (cond control (92 ∷ 117 ∷ 48 ∷ 48 ∷ high ∷ low ∷ []) (b ∷ [])))
escaped_cases true control b letter high low l h k calm = ((λ e. omega arith), (l, tt))
escaped_cases false true b letter high low l h k calm = ((λ e. omega arith), ((λ e. omega arith), ((λ e. omega arith), ((λ e. omega arith), (h, (k, tt))))))
escaped_cases false false b letter high low l h k calm = (calm refl refl, tt)

-- No letter of a short escape is a line feed.
letter_cases : (p q r s t u : Bool) (b : ℕ) → (p ≡ true → b ≢ 10) → cond p b (cond q 98 (cond r 102 (cond s 110 (cond t 114 (cond u 116 0))))) ≢ 10
letter_cases true q r s t u b h e = h refl e
letter_cases false true r s t u b h e = omega arith
letter_cases false false true s t u b h e = omega arith
letter_cases false false false true t u b h e = omega arith
letter_cases false false false false true u b h e = omega arith
letter_cases false false false false false true b h e = omega arith
letter_cases false false false false false false b h e = omega arith

-- A byte is written in a string without a line feed.
feedless_byte : (b : ℕ) → Feedless (escape_byte b)
unfolding escape_byte
feedless_byte b =
    escaped_cases (nat_lt 0 (escape_letter b)) (nat_lt b 32) b (escape_letter b) (digit_char (b / 16)) (digit_char (b % 16))
    (letter_cases ((b == 34) || (b == 92)) (b == 8) (b == 12) (b == 10) (b == 13) (b == 9) b
    (λ quote ten. let no : ((10 == 34) || (10 == 92)) ≡ true =
    subst (λ x. ((x == 34) || (x == 92)) ≡ true) ten quote in cc))
    (digit_char_small (nat_lt (b / 16) 10) (b / 16)) (digit_char_small (nat_lt (b % 16) 10) (b % 16))
    (λ short control ten. let no : nat_lt 10 32 ≡ false = subst (λ x. nat_lt x 32 ≡ false) ten control in cc)

-- A text is written in a string without a line feed.
feedless_escape : (s : List ℕ) → Feedless (escape s)
feedless_escape [] = tt
feedless_escape (b ∷ s) = feedless_both (escape_byte b) (escape s) (feedless_byte b) (feedless_escape s)

-- A string with its quotation marks has no line feed.
feedless_quoted : (s : List ℕ) → Feedless (quoted s)
feedless_quoted s = ((λ e. omega arith), feedless_both (escape s) (34 ∷ []) (feedless_escape s) ((λ e. omega arith), tt))

-- ---- values

-- A decimal number has no line feed.
pub feedless_decimal : (m : ℕ) → m < 2 ^ 64 → Feedless (decimal m)
feedless_decimal = decimal_by_steps (λ m ds. Feedless ds) (λ m h. ((λ e. omega arith), tt))
    (λ m ds h before. feedless_both ds ((48 + m % 10) ∷ []) before ((λ e. omega arith), tt))

-- The comma before a member is not a line feed.
feedless_comma : (later : Bool) → Feedless (comma_if later)
feedless_comma true = ((λ e. omega arith), tt)
feedless_comma false = tt

-- A member has none if its value and the later members have none.
feedless_member : (later : Bool) (name value others : List ℕ) → Feedless value → Feedless others
    → Feedless (comma_if later ++ (quoted name ++ 58 ∷ (value ++ others)))
feedless_member later name value others h k =
    feedless_both (comma_if later) (quoted name ++ 58 ∷ (value ++ others)) (feedless_comma later)
    (feedless_both (quoted name) (58 ∷ (value ++ others)) (feedless_quoted name) ((λ e. omega arith), feedless_both value others h k))

mutual
  feedless_value : (d : Data) → IsPlain d → Feedless (compact_text d)
  feedless_value null h = ((λ e. omega arith), ((λ e. omega arith), ((λ e. omega arith), ((λ e. omega arith), tt))))
  feedless_value (boolean true) h = ((λ e. omega arith), ((λ e. omega arith), ((λ e. omega arith), ((λ e. omega arith), tt))))
  feedless_value (boolean false) h = ((λ e. omega arith), ((λ e. omega arith), ((λ e. omega arith), ((λ e. omega arith), ((λ e. omega arith), tt)))))
  feedless_value (number (unsigned m)) h = feedless_decimal m h
  feedless_value (number (negative z)) h = absurd h
  feedless_value (number (float x)) h = absurd h
  feedless_value (string s) h = feedless_quoted s
  feedless_value (array ds) h = ((λ e. omega arith), feedless_items false ds h)
  feedless_value (object ms) h = ((λ e. omega arith), feedless_members false ms h)

  feedless_items : (later : Bool) (ds : Items) → ArePlain ds → Feedless (items_text later ds)
  feedless_items later no_items h = ((λ e. omega arith), tt)
  feedless_items later (item d ds) h =
      feedless_both (comma_if later) (compact_text d ++ items_text true ds) (feedless_comma later)
      (feedless_both (compact_text d) (items_text true ds) (feedless_value d h.0) (feedless_items true ds h.1))

  feedless_members : (later : Bool) (ms : Members) → HasPlainMembers ms → Feedless (members_text later ms)
  feedless_members later no_members h = ((λ e. omega arith), tt)
  feedless_members later (member name d ms) h =
      feedless_member later name (compact_text d) (members_text true ms) (feedless_value d h.1)
      (feedless_members true ms h.3)

-- ---- lines

-- The closing brace is not a line feed.
ends : Feedless (125 ∷ [])
ends = ((λ e. omega arith), tt)

-- A receipt's line has no line feed.
pub feedless_line : (r : Receipt) → IsReceipt r → Feedless (line r)
unfolding line
feedless_line r h = (
  (λ e. omega arith),
  feedless_member false (codes "doc") (compact_text (document_tree r.document)) _
      (feedless_value (document_tree r.document) (IsPlain-document_tree r.document h.document))
      (feedless_member true (codes "domain") (quoted r.domain) _ (feedless_quoted r.domain)
      (feedless_member true (codes "endpoint") (quoted r.endpoint.text) _ (feedless_quoted r.endpoint.text)
      (feedless_member true (codes "key") (quoted (encode_lower r.key.0)) _ (feedless_quoted (encode_lower r.key.0))
      (feedless_member true (codes "voucher") (quoted (encode_lower r.voucher.0)) (125 ∷ []) (feedless_quoted (encode_lower r.voucher.0)) ends)))),
)

-- A record's line has no line feed.
pub feedless_record : (x : Distrust) → Feedless (distrust_line x)
unfolding distrust_line
feedless_record x = (
  (λ e. omega arith),
  feedless_member false (codes "distrust") (quoted (encode_lower x.key.0)) _ (feedless_quoted (encode_lower x.key.0))
      (feedless_member true (codes "domain") (quoted x.domain) (125 ∷ []) (feedless_quoted x.domain) ends),
)

-- ---- texts that are known

-- the test that a text has no line feed, which computes
abbrev pub is_feedless : List ℕ → Bool
is_feedless [] = true
is_feedless (b ∷ bytes) = not (b == 10) && is_feedless bytes

-- A text that passes the test has none.
pub feedless_by : (bytes : List ℕ) → is_feedless bytes ≡ true → Feedless bytes
feedless_by [] h = tt
feedless_by (b ∷ bytes) h =
    let parts = and_parts (not (b == 10)) (is_feedless bytes) h in
    ((λ e. let no : not (10 == 10) ≡ true = subst (λ x. not (x == 10) ≡ true) e parts.0 in cc), feedless_by bytes parts.1)
