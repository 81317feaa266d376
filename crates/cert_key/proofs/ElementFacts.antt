-- The bytes of an element are read as that element, and what is read has these bytes.
use Rattle.std.proofs.Common.{◌≡◌, ℕ, ◌+◌, ◌-◌, ◌*◌, ◌/◌, ◌%◌, ◌^◌, ◌<◌, ◌≤◌, false, cond, ltb, eqb, List, [], ◌∷◌, ◌++◌, length, take, drop, Some}
use Rattle.std.proofs.Common.{None, refl, sym, ap, subst, ◌∙◌, append_assoc, arith, inl, inr}
use Rattle.std.proofs.lemmas.Bool.{cases_lt, ltb-true, ltb-false, lt-ltb, le-ltb, eqb-true, eq-eqb}
use Rattle.std.proofs.lemmas.List.{take_at, drop_at, take-append-drop, length-append, length-take}
use Rattle.cert_key.specs.Der.{element, length_bytes}
use Rattle.cert_key.specs.Inside.Reading.{one_at, two_at, three_at, length_at, Found, found, element_at, with_tag, field_at}
use Rattle.cert_key.proofs.StepFacts.{bind_some, if_some, unless_some, chosen, same_some, IsBytes, IsBytes-drop, IsBytes-take, IsBytes-rest}

-- ---- the four forms of a length

bytes_none : (n : ℕ) → n < 128 → length_bytes n ≡ n ∷ []
unfolding length_bytes
bytes_none n lt = rw (lt-ltb n 128 lt) refl

bytes_one : (n : ℕ) → 128 ≤ n → n < 256 → length_bytes n ≡ 129 ∷ n ∷ []
unfolding length_bytes
bytes_one n le lt = rw (le-ltb n 128 le, lt-ltb n 256 lt) refl

bytes_two : (n : ℕ) → 256 ≤ n → n < 65536 → length_bytes n ≡ 130 ∷ n / 256 ∷ n % 256 ∷ []
unfolding length_bytes
bytes_two n le lt = rw (le-ltb n 128 (omega arith), le-ltb n 256 le, lt-ltb n 65536 lt) refl

bytes_three : (n : ℕ) → 65536 ≤ n
    → length_bytes n ≡ 131 ∷ n / 65536 ∷ n / 256 % 256 ∷ n % 256 ∷ []
unfolding length_bytes
bytes_three n le = rw (le-ltb n 128 (omega arith), le-ltb n 256 (omega arith), le-ltb n 65536 le) refl

read_none : (n : ℕ) (rest : List ℕ) → n < 128 → length_at (n ∷ rest) ≡ Some (n, rest)
unfolding length_at
read_none n rest lt = rw (lt-ltb n 128 lt) refl

read_one : (n : ℕ) (rest : List ℕ) → 128 ≤ n → length_at (129 ∷ n ∷ rest) ≡ Some (n, rest)
unfolding length_at one_at
read_one n rest le = rw (le-ltb n 128 le) refl

read_two : (a b : ℕ) (rest : List ℕ) → 256 ≤ a * 256 + b
    → length_at (130 ∷ a ∷ b ∷ rest) ≡ Some (a * 256 + b, rest)
unfolding length_at two_at
read_two a b rest le = rw (le-ltb (a * 256 + b) 256 le) refl

read_three : (a b c : ℕ) (rest : List ℕ) → 65536 ≤ a * 65536 + b * 256 + c
    → length_at (131 ∷ a ∷ b ∷ c ∷ rest) ≡ Some (a * 65536 + b * 256 + c, rest)
unfolding length_at three_at
read_three a b c rest le = rw (le-ltb (a * 65536 + b * 256 + c) 65536 le) refl

-- what was spelled is read, whatever follows
length_again : (n : ℕ) (rest : List ℕ) → n < 2 ^ 24 → length_at (length_bytes n ++ rest) ≡ Some (n, rest)
length_again n rest lt =
    elim (cases_lt n 128) [
      | inl below ↦ rw (bytes_none n below) (read_none n rest below)
      | inr above ↦ elim (cases_lt n 256) [
        | inl below ↦ rw (bytes_one n above below) (read_one n rest above)
        | inr more ↦ elim (cases_lt n 65536) [
          | inl below ↦
              let e : n / 256 * 256 + n % 256 ≡ n = omega arith in
              rw (bytes_two n more below) (read_two (n / 256) (n % 256) rest (omega arith) ∙ rw e refl)
          | inr most ↦
              let e : n / 65536 * 65536 + n / 256 % 256 * 256 + n % 256 ≡ n = omega arith in
              rw (bytes_three n most) (read_three (n / 65536) (n / 256 % 256) (n % 256) rest (omega arith) ∙ rw e refl)
        ]
      ]
    ]

-- what was read is spelled so
pub record Takes (bytes text rest : List ℕ) : Type 0 where
  pub parts : bytes ≡ text ++ rest
  pub rest_fits : IsBytes rest

one_takes : (bytes : List ℕ) (n : ℕ) (rest : List ℕ) → IsBytes bytes → one_at bytes ≡ Some (n, rest)
    → Takes (129 ∷ bytes) (length_bytes n) rest × (n < 2 ^ 24)
unfolding one_at
one_takes [] n rest fits e = absurd cc
one_takes (a ∷ bytes) n rest fits e =
    let g = unless_some (ltb a 128) (Some (a, bytes)) (n, rest) e in
    let small : a < 256 = fits 0 in
    subst (λ (x : ℕ × List ℕ). Takes (129 ∷ a ∷ bytes) (length_bytes x.0) x.1 × (x.0 < 2 ^ 24))
    (same_some (a, bytes) (n, rest) g.1)
    (record { parts = rw (bytes_one a (ltb-false a 128 g.0) small) refl; rest_fits = IsBytes-rest a bytes fits }, omega arith)

two_takes : (bytes : List ℕ) (n : ℕ) (rest : List ℕ) → IsBytes bytes → two_at bytes ≡ Some (n, rest)
    → Takes (130 ∷ bytes) (length_bytes n) rest × (n < 2 ^ 24)
unfolding two_at
two_takes [] n rest fits e = absurd cc
two_takes (a ∷ []) n rest fits e = absurd cc
two_takes (a ∷ b ∷ bytes) n rest fits e =
    let g = unless_some (ltb (a * 256 + b) 256) (Some (a * 256 + b, bytes)) (n, rest) e in
    let first : a < 256 = fits 0 in
    let second : b < 256 = fits 1 in
    let high : (a * 256 + b) / 256 ≡ a = omega arith in
    let low : (a * 256 + b) % 256 ≡ b = omega arith in
    subst (λ (x : ℕ × List ℕ). Takes (130 ∷ a ∷ b ∷ bytes) (length_bytes x.0) x.1 × (x.0 < 2 ^ 24))
    (same_some (a * 256 + b, bytes) (n, rest) g.1) (
      record {
        parts = rw (bytes_two (a * 256 + b) (ltb-false (a * 256 + b) 256 g.0) (omega arith), high, low) refl;
        rest_fits = IsBytes-rest b bytes (IsBytes-rest a (b ∷ bytes) fits);
      },
      omega arith,
    )

three_takes : (bytes : List ℕ) (n : ℕ) (rest : List ℕ) → IsBytes bytes → three_at bytes ≡ Some (n, rest)
    → Takes (131 ∷ bytes) (length_bytes n) rest × (n < 2 ^ 24)
unfolding three_at
three_takes [] n rest fits e = absurd cc
three_takes (a ∷ []) n rest fits e = absurd cc
three_takes (a ∷ b ∷ []) n rest fits e = absurd cc
three_takes (a ∷ b ∷ c ∷ bytes) n rest fits e =
    let g = unless_some (ltb (a * 65536 + b * 256 + c) 65536) (Some (a * 65536 + b * 256 + c, bytes)) (n, rest) e in
    let first : a < 256 = fits 0 in
    let second : b < 256 = fits 1 in
    let third : c < 256 = fits 2 in
    let high : (a * 65536 + b * 256 + c) / 65536 ≡ a = omega arith in
    let middle : (a * 65536 + b * 256 + c) / 256 % 256 ≡ b = omega arith in
    let low : (a * 65536 + b * 256 + c) % 256 ≡ c = omega arith in
    subst (λ (x : ℕ × List ℕ). Takes (131 ∷ a ∷ b ∷ c ∷ bytes) (length_bytes x.0) x.1 × (x.0 < 2 ^ 24))
    (same_some (a * 65536 + b * 256 + c, bytes) (n, rest) g.1) (
      record {
        parts = rw (bytes_three (a * 65536 + b * 256 + c) (ltb-false (a * 65536 + b * 256 + c) 65536 g.0), high, middle, low) refl;
        rest_fits = IsBytes-rest c bytes (IsBytes-rest b (c ∷ bytes) (IsBytes-rest a (b ∷ c ∷ bytes) fits));
      },
      omega arith,
    )

-- a length whose first byte is known
abbrev pub LengthTakes : List ℕ → ℕ → List ℕ → Type 0
LengthTakes bytes n rest = Takes bytes (length_bytes n) rest × (n < 2 ^ 24)

length_takes : (bytes : List ℕ) (n : ℕ) (rest : List ℕ) → IsBytes bytes → length_at bytes ≡ Some (n, rest)
    → LengthTakes bytes n rest
unfolding length_at
length_takes [] n rest fits e = absurd cc
length_takes (x ∷ bytes) n rest fits e =
    elim (chosen (ltb x 128) (Some (x, bytes)) (cond (eqb x 129) (one_at bytes) (cond (eqb x 130) (two_at bytes) (cond (eqb x 131)
    (three_at bytes) None))) (Some (n, rest)) e) [
      | inl h ↦
          let below = ltb-true x 128 h.0 in
          subst (λ (p : ℕ × List ℕ). LengthTakes (x ∷ bytes) p.0 p.1) (same_some (x, bytes) (n, rest) h.1)
          (record { parts = rw (bytes_none x below) refl; rest_fits = IsBytes-rest x bytes fits }, omega (arith, below))
      | inr h ↦ elim (chosen (eqb x 129) (one_at bytes) (cond (eqb x 130) (two_at bytes) (cond (eqb x 131) (three_at bytes) None)) (Some
          (n, rest)) h.1) [
            | inl k ↦ subst (λ (y : ℕ). LengthTakes (y ∷ bytes) n rest) (sym (eqb-true x 129 k.0)) (one_takes bytes n rest
                (IsBytes-rest x bytes fits) k.1)
            | inr k ↦ elim (chosen (eqb x 130) (two_at bytes) (cond (eqb x 131) (three_at bytes) None) (Some (n, rest)) k.1) [
              | inl j ↦ subst (λ (y : ℕ). LengthTakes (y ∷ bytes) n rest) (sym (eqb-true x 130 j.0)) (two_takes bytes n rest
                  (IsBytes-rest x bytes fits) j.1)
              | inr j ↦
                  let i = if_some (eqb x 131) (three_at bytes) (n, rest) j.1 in
                  subst (λ (y : ℕ). LengthTakes (y ∷ bytes) n rest) (sym (eqb-true x 131 i.0)) (three_takes bytes n rest (IsBytes-rest x bytes fits) i.1)
            ]
          ]
    ]

-- ---- elements

-- an element that was read is spelled so
pub record FieldTakes (tag : ℕ) (bytes : List ℕ) (e : Found) : Type 0 where
  pub parts : bytes ≡ element tag e.content ++ e.after
  pub whole : e.whole ≡ element tag e.content
  pub short : length e.content < 2 ^ 24
  pub content_fits : IsBytes e.content
  pub after_fits : IsBytes e.after

-- what is before the rest
front_of : (bytes text rest : List ℕ) → bytes ≡ text ++ rest → take (length bytes - length rest) bytes ≡ text
front_of bytes text rest e =
    let k : length bytes - length rest ≡ length text = omega (arith, ap length e, length-append text rest) in
    rw (k, e) (take_at text rest (length text) refl)

-- the pieces of an element, put together
put_together : (tag n : ℕ) (bytes rest : List ℕ) → n ≤ length rest → bytes ≡ length_bytes n ++ rest
    → tag ∷ bytes ≡ element tag (take n rest) ++ drop n rest
put_together tag n bytes rest le e =
    let k : length (take n rest) ≡ n = omega (arith, length-take n rest) in
    rw k (ap (λ (t : List ℕ). tag ∷ t)
    (e ∙ ap (λ (t : List ℕ). length_bytes n ++ t) (sym (take-append-drop n rest))
    ∙ sym (append_assoc (length_bytes n) (take n rest) (drop n rest))))

abbrev pub made : ℕ → List ℕ → List ℕ → List ℕ → Found
made tag whole content after = record { tag = tag; whole = whole; content = content; after = after }

pub element_takes : (bytes : List ℕ) (e : Found) → IsBytes bytes → element_at bytes ≡ Some e
    → FieldTakes e.tag bytes e
unfolding element_at
element_takes [] e fits h = absurd cc
element_takes (tag ∷ bytes) e fits h =
    let b = bind_some (length_at bytes) (found tag bytes) e h in
    let t = length_takes bytes b.0.0 b.0.1 (IsBytes-rest tag bytes fits) b.1 in
    let g = unless_some (ltb (length b.0.1) b.0.0) (Some (made tag (take (length (tag ∷ bytes) - length (drop b.0.0 b.0.1)) (tag ∷ bytes))
    (take b.0.0 b.0.1) (drop b.0.0 b.0.1))) e b.2 in
    let le : b.0.0 ≤ length b.0.1 = ltb-false (length b.0.1) b.0.0 g.0 in
    let whole = put_together tag b.0.0 bytes b.0.1 le t.0.parts in
    let below : b.0.0 < 2 ^ 24 = t.1 in
    subst (λ (x : Found). FieldTakes x.tag (tag ∷ bytes) x)
    (same_some (made tag (take (length (tag ∷ bytes) - length (drop b.0.0 b.0.1)) (tag ∷ bytes)) (take b.0.0 b.0.1) (drop b.0.0 b.0.1)) e g.1)
    (record {
      parts = whole;
      whole = front_of (tag ∷ bytes) (element tag (take b.0.0 b.0.1)) (drop b.0.0 b.0.1) whole;
      short = omega (arith, below, length-take b.0.0 b.0.1);
      content_fits = IsBytes-take b.0.0 b.0.1 t.0.rest_fits;
      after_fits = IsBytes-drop b.0.0 b.0.1 t.0.rest_fits;
    })

pub field_takes : (tag : ℕ) (bytes : List ℕ) (e : Found) → IsBytes bytes → field_at tag bytes ≡ Some e
    → FieldTakes tag bytes e
unfolding field_at
field_takes tag bytes e fits h =
    let b = bind_some (element_at bytes) (with_tag tag) e h in
    let g = if_some (eqb b.0.tag tag) (Some b.0) e b.2 in
    let t = element_takes bytes b.0 fits b.1 in
    subst (λ (x : Found). FieldTakes tag bytes x) (same_some b.0 e g.1)
    (subst (λ (k : ℕ). FieldTakes k bytes b.0) (eqb-true b.0.tag tag g.0) t)

-- what was spelled is found
found_again : (tag : ℕ) (bytes whole content rest : List ℕ) → tag ∷ bytes ≡ whole ++ rest
    → found tag bytes (length content, content ++ rest) ≡ Some (made tag whole content rest)
found_again tag bytes whole content rest e =
    let long : length content ≤ length (content ++ rest) = omega (arith, length-append content rest) in
    rw (
      le-ltb (length (content ++ rest)) (length content) long,
      drop_at content rest (length content) refl,
      take_at content rest
          (length content) refl,
    )
    (ap (λ (w : List ℕ). Some (made tag w content rest)) (front_of (tag ∷ bytes) whole rest e))

pub element_again : (tag : ℕ) (content rest : List ℕ) → length content < 2 ^ 24
    → element_at (element tag content ++ rest) ≡ Some (made tag (element tag content) content rest)
unfolding element_at
element_again tag content rest lt =
    let read : length_at ((length_bytes (length content) ++ content) ++ rest) ≡ Some (length content, content ++ rest) =
    ap length_at (append_assoc (length_bytes (length content)) content rest) ∙ length_again (length content) (content ++ rest) lt in
    rw read (found_again tag ((length_bytes (length content) ++ content) ++ rest) (element tag content) content rest refl)

pub field_again : (tag : ℕ) (content rest : List ℕ) → length content < 2 ^ 24
    → field_at tag (element tag content ++ rest) ≡ Some (made tag (element tag content) content rest)
unfolding field_at
field_again tag content rest lt = rw (element_again tag content rest lt, eq-eqb tag tag refl) refl

pub field_other : (other tag : ℕ) (content rest : List ℕ) → eqb tag other ≡ false → length content < 2 ^ 24
    → field_at other (element tag content ++ rest) ≡ None
unfolding field_at
field_other other tag content rest differs lt = rw (element_again tag content rest lt, differs) refl

-- what is in a short text is short
pub short_content : (tag : ℕ) (content rest : List ℕ) → length (element tag content ++ rest) < 2 ^ 24 → length content < 2 ^ 24
short_content tag content rest lt =
    omega (arith, length-append (element tag content) rest, length-append (length_bytes (length content)) content)

pub short_rest : (text rest : List ℕ) → length (text ++ rest) < 2 ^ 24 → length rest < 2 ^ 24
short_rest text rest lt = omega (arith, length-append text rest)
