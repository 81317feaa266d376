-- First lines, from their parts and back.
use Rattle.std.proofs.Common.{◌≡◌, ℕ, ◌≤◌, ◌<◌, ◌+◌, List, [], ◌++◌, length, length-append, length-take, take, drop, codes, ap, sym, ◌∙◌, arith, append_assoc}
use Rattle.std.proofs.lemmas.List.{append_cancel_left, append_cancel_right, take-append-drop}
use Rattle.std.proofs.Math.Seq.{drop-append_seam, take-append_seam}
use Rattle.std.specs.Prelude.{decimal}
use Rattle.std.proofs.lemmas.Fmt.{decimal_injective}
use Rattle.replica_texts.specs.Inside.Reading.{IsSplit}
use Rattle.replica_texts.specs.Snapshots.{IsHeader, header_of, count_beginning}
use Rattle.replica_texts.specs.declared.format.Format.{Format}

-- what comes before the digits of the digest
abbrev first_label : List ℕ
first_label = codes "{\"config\":\""

-- what comes before the number of the format
abbrev second_label : List ℕ
second_label = codes "\",\"format\":"

-- what comes after the digits of the digest
abbrev after_digits : List ℕ → List ℕ
after_digits number = second_label ++ (number ++ codes "}")

-- What was written piece by piece is a first line.
pub header_pushed : (t0 t1 t2 t3 t4 t5 digits number : List ℕ) → t0 ≡ [] → t1 ≡ t0 ++ first_label → t2 ≡ t1 ++ digits
    → t3 ≡ t2 ++ second_label → t4 ≡ t3 ++ number
    → t5 ≡ t4 ++ codes "}" → t5 ≡ header_of digits number
unfolding header_of
header_pushed t0 t1 t2 t3 t4 t5 digits number e0 e1 e2 e3 e4 e5 = rw (e5, e4, e3, e2, e1, e0) (simp append_assoc)

-- What was written piece by piece is a last line.
pub count_pushed : (format : Format) (t0 t1 t2 t3 t4 receipts records : List ℕ) → t0 ≡ [] → t1 ≡ t0 ++ count_beginning
    → t2 ≡ t1 ++ receipts → t3 ≡ t2 ++ records
    → t4 ≡ t3 ++ codes "}" → t4 ≡ count_beginning ++ (receipts ++ (records ++ codes "}"))
count_pushed format t0 t1 t2 t3 t4 receipts records e0 e1 e2 e3 e4 = rw (e4, e3, e2, e1, e0) (simp append_assoc)

-- ---- what a split text has after each part

-- After the first label come the digits and what follows them.
pub after_first : (text rest digits number : List ℕ) → text ≡ first_label ++ rest → IsSplit text digits number → rest ≡ digits ++ after_digits number
unfolding header_of
after_first text rest digits number e s = append_cancel_left first_label rest (digits ++ after_digits number) (sym e ∙ s.whole)

-- A text that has the parts begins with the first label.
pub has_first : (text digits number : List ℕ) → IsSplit text digits number → text ≡ first_label ++ (digits ++ after_digits number)
unfolding header_of
has_first text digits number s = s.whole

-- After the first label come at least 64 bytes.
pub long_rest : (text rest digits number : List ℕ) → text ≡ first_label ++ rest → length rest < 64 → IsSplit text digits number → ⊥
long_rest text rest digits number e l s =
    let whole : length rest ≡ length (digits ++ after_digits number) = ap length (after_first text rest digits number e s) in
    let parts : length (digits ++ after_digits number) ≡ length digits + length (after_digits number) = length-append digits (after_digits number) in
    omega (arith, s.size)

-- The first 64 bytes after the first label are the digits.
pub split_digits_are : (text rest digits number : List ℕ) → text ≡ first_label ++ rest → IsSplit text digits number → take 64 rest ≡ digits
split_digits_are text rest digits number e s =
    ap (take 64) (after_first text rest digits number e s)
    ∙ ap (λ n. take n (digits ++ after_digits number)) (sym s.size)
    ∙ take-append_seam digits (after_digits number)

-- After the digits comes the second label.
pub after_second : (text rest digits number : List ℕ) → text ≡ first_label ++ rest → IsSplit text digits number → drop 64 rest ≡ after_digits number
after_second text rest digits number e s =
    ap (drop 64) (after_first text rest digits number e s)
    ∙ ap (λ n. drop n (digits ++ after_digits number)) (sym s.size)
    ∙ drop-append_seam digits (after_digits number)

-- After the second label come the number and the closing brace.
pub after_third : (text rest last digits number : List ℕ) → text ≡ first_label ++ rest
    → drop 64 rest ≡ second_label ++ last → IsSplit text digits number → last ≡ number ++ codes "}"
after_third text rest last digits number e f s = append_cancel_left second_label last (number ++ codes "}") (sym f ∙ after_second text rest digits number e s)

-- A text that was taken apart so has these parts.
pub split_whole : (text rest last number : List ℕ) → text ≡ first_label ++ rest → 64 ≤ length rest
    → drop 64 rest ≡ second_label ++ last → last ≡ number ++ codes "}" → IsSplit text (take 64 rest) number
unfolding header_of
split_whole text rest last number e l f g = record {
  whole = e ∙ ap (λ r. first_label ++ r) (sym (take-append-drop 64 rest) ∙ ap (λ r. take 64 rest ++ r) (f ∙ ap (λ r. second_label ++ r) g));
  size = simp length-take (omega arith);
}

-- ---- one first line has one pair of parts

-- A text has the parts of one first line at most.
pub one_split : (text d n d' n' : List ℕ) → IsSplit text d n → IsSplit text d' n' → (d ≡ d') × (n ≡ n')
one_split text d n d' n' s t =
    let e = has_first text d n s in
    let digits : d ≡ d' = sym (split_digits_are text (d ++ after_digits n) d n e s) ∙ split_digits_are text (d ++ after_digits n) d' n' e t in
    let tails : after_digits n ≡ after_digits n' =
    sym (after_second text (d ++ after_digits n) d n e s) ∙ after_second text (d ++ after_digits n) d' n' e t in
    (digits, append_cancel_right n n' (codes "}") (append_cancel_left second_label (n ++ codes "}") (n' ++ codes "}") tails))

-- A first line has its parts.
pub header_split : (text digits : List ℕ) (version : ℕ) → IsHeader text digits version → IsSplit text digits (decimal version)
header_split text digits version h = record { whole = h.spelt; size = h.form.size }

-- A first line has one digest and one number.
pub one_header : (text d d' : List ℕ) (n n' : ℕ) → IsHeader text d n → IsHeader text d' n' → (d ≡ d') × (n ≡ n')
one_header text d d' n n' h k =
    let both = one_split text d (decimal n) d' (decimal n') (header_split text d n h) (header_split text d' n' k) in
    (both.0, decimal_injective n n' h.few k.few both.1)
