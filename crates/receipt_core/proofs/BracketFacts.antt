-- No object's compact text is a proper beginning of another's: its last bracket closes its first.
use Rattle.std.proofs.Common.{◌≡◌, ℕ, zero, suc, ◌+◌, ◌<◌, ◌^◌, ◌/◌, ◌%◌, ◌==◌, ◌||◌, Bool, true, false, cond, List, []}
use Rattle.std.proofs.Common.{◌∷◌, ◌++◌, decimal, nat_lt, refl, ap, sym, ◌∙◌, arith, append_assoc}
use Rattle.std.proofs.lemmas.Bool.Decides.{nat_tests}
use Rattle.std.proofs.lemmas.List.{append_cancel_right}
use Rattle.std.proofs.lemmas.Fmt.{decimal_by_steps}
use Rattle.std.specs.Char.{digit_char}
use Rattle.json.specs.Print.{escape, escape_byte, escape_letter, quoted}
use Rattle.serde_json.specs.Data.{unsigned, negative, float, Data, null, boolean, number, string, array, object, Items}
use Rattle.serde_json.specs.Data.{no_items, item, Members, no_members, member}
use Rattle.serde_json.specs.Written.{compact_text, items_text, members_text, comma_if}
use Rattle.jwk_set.specs.Json.{IsPlain, ArePlain, HasPlainMembers}
use Rattle.receipt_core.proofs.OrderFacts.{Apart}

-- A reader of bytes with n brackets open inside of the outermost one. Its result is what follows
-- the bracket that closes the outermost one.
abbrev mutual
  -- outside of strings
  outside : ℕ → List ℕ → List ℕ
  outside n [] = []
  outside n (b ∷ bytes) =
      cond (b == 34) (inside n bytes)
      (cond ((b == 91) || (b == 123)) (outside (suc n) bytes)
      (cond ((b == 93) || (b == 125)) (elim n [ zero ↦ bytes | suc k ↦ outside k bytes ])
      (outside n bytes)))

  -- in a string
  inside : ℕ → List ℕ → List ℕ
  inside n [] = []
  inside n (b ∷ bytes) = cond (b == 34) (outside n bytes) (cond (b == 92) (escaped n bytes) (inside n bytes))

  -- in a string, after a backslash
  escaped : ℕ → List ℕ → List ℕ
  escaped n [] = []
  escaped n (b ∷ bytes) = inside n bytes

-- what follows a closing bracket
abbrev closed : ℕ → List ℕ → List ℕ
closed zero rest = rest
closed (suc n) rest = outside n rest

-- ---- strings

-- neither a quotation mark nor a backslash
abbrev IsCalm : ℕ → Type 0
IsCalm b = ((b == 34) ≡ false) × ((b == 92) ≡ false)

-- a calm byte in a string leaves the reader in it
calm : (n b : ℕ) (rest : List ℕ) → IsCalm b → inside n (b ∷ rest) ≡ inside n rest
calm n b rest h = let quote = h.0 in let slash = h.1 in rw (quote, slash) refl

-- each of the three spellings of a byte leaves the reader in the string: a short escape, one by
-- digits, and the byte itself
in_cases : (n : ℕ) (short control : Bool) (b letter high low : ℕ) (rest : List ℕ)
    → (control ≡ true → IsCalm high × IsCalm low) → (short ≡ false → IsCalm b)
    → inside n (cond short (92 ∷ letter ∷ []) (cond control (92 ∷ 117 ∷ 48 ∷ 48 ∷ high ∷ low ∷ []) (b ∷ [])) ++ rest) ≡ inside n rest
in_cases n true control b letter high low rest h k = refl
in_cases n false true b letter high low rest h k = calm n high (low ∷ rest) (h refl).0 ∙ calm n low rest (h refl).1
in_cases n false false b letter high low rest h k = calm n b rest (k refl)

-- a hexadecimal digit is calm
calm_digit : (x : ℕ) → x < 16 → IsCalm (digit_char x)
calm_digit x h = (grind (arith, nat_tests), grind (arith, nat_tests))

-- both digits of a control character are calm
calm_hex : (b : ℕ) → nat_lt b 32 ≡ true → IsCalm (digit_char (b / 16)) × IsCalm (digit_char (b % 16))
calm_hex b h =
    let small : b < 32 = grind (arith, nat_tests) in
    (calm_digit (b / 16) (omega arith), calm_digit (b % 16) (omega arith))

-- if the letter of an escape is 0, the byte is neither of the two marks, since each of these is its
-- own letter
chosen : (marked : Bool) (b other : ℕ) → 0 < b → nat_lt 0 (cond marked b other) ≡ false → marked ≡ false
chosen true b other h k = grind (arith, nat_tests)
chosen false b other h k = refl

-- if neither of two is so, the first is not
first_false : (p q : Bool) → (p || q) ≡ false → p ≡ false
first_false true q h = cc
first_false false q h = refl

-- if neither of two is so, the second is not
second_false : (p q : Bool) → (p || q) ≡ false → q ≡ false
second_false true q h = cc
second_false false q h = h

-- a byte without a short escape is calm
unescaped : (b : ℕ) → nat_lt 0 (escape_letter b) ≡ false → IsCalm b
unescaped b h =
    let zero_or_calm : (0 < b) → ((b == 34) || (b == 92)) ≡ false = λ some. chosen ((b == 34) || (b == 92)) b _ some h in
    (calm_quote b (λ some. zero_or_calm some), calm_slash b (λ some. zero_or_calm some))
  where
    calm_quote : (b : ℕ) → (0 < b → ((b == 34) || (b == 92)) ≡ false) → (b == 34) ≡ false
    calm_quote zero k = refl
    calm_quote (suc b) k = first_false (suc b == 34) (suc b == 92) (k (omega arith))

    calm_slash : (b : ℕ) → (0 < b → ((b == 34) || (b == 92)) ≡ false) → (b == 92) ≡ false
    calm_slash zero k = refl
    calm_slash (suc b) k = second_false (suc b == 34) (suc b == 92) (k (omega arith))

-- an escaped byte leaves the reader in the string
inside_byte : (n b : ℕ) (rest : List ℕ) → inside n (escape_byte b ++ rest) ≡ inside n rest
unfolding escape_byte
inside_byte n b rest = in_cases n (nat_lt 0 (escape_letter b)) (nat_lt b 32) b (escape_letter b) (digit_char (b / 16))
    (digit_char (b % 16)) rest (calm_hex b) (unescaped b)

-- an escaped text and the quotation mark after it lead out of the string
inside_escape : (n : ℕ) (s rest : List ℕ) → inside n (escape s ++ 34 ∷ rest) ≡ outside n rest
inside_escape n [] rest = refl
inside_escape n (b ∷ s) rest =
    ap (inside n) (append_assoc (escape_byte b) (escape s) (34 ∷ rest)) ∙ inside_byte n b (escape s ++ 34 ∷ rest) ∙ inside_escape n s rest

-- a quoted text does not move the reader, and leaves the same number of brackets open
outside_quoted : (n : ℕ) (s rest : List ℕ) → outside n (quoted s ++ rest) ≡ outside n rest
outside_quoted n s rest = ap (inside n) (append_assoc (escape s) (34 ∷ []) rest) ∙ inside_escape n s rest

-- ---- numbers

-- the text leaves the reader outside of strings, and the same number of brackets open
Passes : List ℕ → Type 0
Passes text = (n : ℕ) (rest : List ℕ) → outside n (text ++ rest) ≡ outside n rest

-- a digit does not move the reader
digit_passes : (d n : ℕ) (rest : List ℕ) → d < 10 → outside n ((48 + d) ∷ rest) ≡ outside n rest
digit_passes d n rest h =
    let quote : ((48 + d) == 34) ≡ false = grind (arith, nat_tests) in
    let opens : (((48 + d) == 91) || ((48 + d) == 123)) ≡ false = grind (arith, nat_tests) in
    let closes : (((48 + d) == 93) || ((48 + d) == 125)) ≡ false = grind (arith, nat_tests) in
    rw (quote, opens, closes) refl

-- so does a number in digits
decimal_passes : (m : ℕ) → m < 2 ^ 64 → (n : ℕ) (rest : List ℕ) → outside n (decimal m ++ rest) ≡ outside n rest
decimal_passes =
    decimal_by_steps (λ m ds. (n : ℕ) (rest : List ℕ) → outside n (ds ++ rest) ≡ outside n rest)
    (λ m h n rest. digit_passes m n rest h)
    (λ m ds h before n rest. ap (outside n) (append_assoc ds ((48 + m % 10) ∷ []) rest)
    ∙ before n ((48 + m % 10) ∷ rest) ∙ digit_passes (m % 10) n rest (omega arith))

-- so does a comma, or none
comma_passes : (later : Bool) (n : ℕ) (rest : List ℕ) → outside n (comma_if later ++ rest) ≡ outside n rest
comma_passes true n rest = refl
comma_passes false n rest = refl

-- ---- values

mutual
  -- so does the compact text of a plain value
  passes : (d : Data) → IsPlain d → (n : ℕ) (rest : List ℕ) → outside n (compact_text d ++ rest) ≡ outside n rest
  passes null h n rest = refl
  passes (boolean true) h n rest = refl
  passes (boolean false) h n rest = refl
  passes (number (unsigned m)) h n rest = decimal_passes m h n rest
  passes (number (negative z)) h n rest = absurd h
  passes (number (float x)) h n rest = absurd h
  passes (string s) h n rest = outside_quoted n s rest
  passes (array ds) h n rest = items_close false ds h (suc n) rest
  passes (object ms) h n rest = members_close false ms h (suc n) rest

  -- the items of an array and its closing bracket close one bracket
  items_close : (later : Bool) (ds : Items) → ArePlain ds → (n : ℕ) (rest : List ℕ) → outside n (items_text later ds ++ rest) ≡ closed n rest
  items_close later no_items h zero rest = refl
  items_close later no_items h (suc n) rest = refl
  items_close later (item d ds) h n rest =
      ap (outside n) (append_assoc (comma_if later) (compact_text d ++ items_text true ds) rest)
      ∙ comma_passes later n ((compact_text d ++ items_text true ds) ++ rest)
      ∙ ap (outside n) (append_assoc (compact_text d) (items_text true ds) rest) ∙ passes d h.0 n (items_text true ds ++ rest)
      ∙ items_close true ds h.1 n rest

  -- the members of an object and its closing bracket close one bracket
  members_close : (later : Bool) (ms : Members) → HasPlainMembers ms → (n : ℕ) (rest : List ℕ) → outside n (members_text later ms ++ rest) ≡ closed n rest
  members_close later no_members h zero rest = refl
  members_close later no_members h (suc n) rest = refl
  members_close later (member name d ms) h n rest =
      ap (outside n) (append_assoc (comma_if later) (quoted name ++ 58 ∷ (compact_text d ++ members_text true ms)) rest)
      ∙ comma_passes later n ((quoted name ++ 58 ∷ (compact_text d ++ members_text true ms)) ++ rest)
      ∙ ap (outside n) (append_assoc (quoted name) (58 ∷ (compact_text d ++ members_text true ms)) rest)
      ∙ outside_quoted n name (58 ∷ ((compact_text d ++ members_text true ms) ++ rest))
      ∙ ap (outside n) (append_assoc (compact_text d) (members_text true ms) rest) ∙ passes d h.1 n (members_text true ms ++ rest)
      ∙ members_close true ms h.3 n rest

-- neither of two objects' texts is a proper beginning of the other
pub apart_objects : (ms ns : Members) → HasPlainMembers ms → HasPlainMembers ns → Apart (compact_text (object ms)) (compact_text (object ns))
apart_objects ms ns p q u v same =
    let inner : members_text false ms ++ u ≡ members_text false ns ++ v = cc in
    let rests : u ≡ v = sym (members_close false ms p 0 u) ∙ ap (outside 0) inner ∙ members_close false ns q 0 v in
    append_cancel_right (compact_text (object ms)) (compact_text (object ns)) u (same ∙ ap (λ t. compact_text (object ns) ++ t) (sym rests))
