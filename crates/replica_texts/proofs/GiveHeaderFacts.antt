-- The first lines of answers, from their parts and back.
use Rattle.std.proofs.Common.{◌≡◌, ℕ, ◌<◌, ◌^◌, false, List, ◌∷◌, ◌++◌, drop, get_or, codes, decimal, Option, None}
use Rattle.std.proofs.Common.{Some, refl, ap, sym, ◌∙◌, arith, append_assoc}
use Rattle.std.specs.Prelude.{IfSome}
use Rattle.std.specs.Char.{is_ascii_digit}
use Rattle.replica_texts.specs.Messages.{distrusts_part}
use Rattle.replica_texts.specs.FirstLines.{IsRecordCount}

-- what comes before the number of records
abbrev pub records_label : List ℕ
records_label = codes ",\"distrusts\":"

-- what comes before the number of the format
abbrev pub format_label : List ℕ
format_label = codes ",\"format\":"

-- a comma follows the number of receipts
pub part-begins : (distrusts : Option ℕ) (more : List ℕ)
    → distrusts_part distrusts ++ (format_label ++ more)
    ≡ 44 ∷ drop 1 (distrusts_part distrusts ++ (format_label ++ more))
part-begins None more = refl
part-begins (Some n) more = refl

-- The number of records, if there is one, has 64 bits.
pub few-records : (format : ℕ) (distrusts : Option ℕ) → IsRecordCount format distrusts → IfSome distrusts (λ n. n < 2 ^ 64)
few-records format None h = tt
few-records format (Some n) h = h

-- A text does not begin with both labels.
pub no-records : (text rest more : List ℕ) → text ≡ records_label ++ rest → text ≡ format_label ++ more → ⊥
no-records text rest more e f = let no : 100 ≡ 102 = sym (ap (λ (t : List ℕ). get_or t 2 0) e) ∙ ap (λ (t : List ℕ). get_or t 2 0) f in omega (arith, no)

-- If the label of records comes next, the number that was read after it is the number of records.
pub some-records : (text rest follows : List ℕ) (number : ℕ) → text ≡ records_label ++ rest
    → ((n stop : ℕ) (more : List ℕ) → n < 2 ^ 64 → is_ascii_digit stop ≡ false
    → text ≡ records_label ++ (decimal n ++ (stop ∷ more)) → (number ≡ n) × (follows ≡ stop ∷ more))
    → (distrusts : Option ℕ) (more : List ℕ) → IfSome distrusts (λ n. n < 2 ^ 64)
    → text ≡ distrusts_part distrusts ++ (format_label ++ more)
    → (Some number ≡ distrusts) × (follows ≡ format_label ++ more)
some-records text rest follows number begins right None more few e = absurd (no-records text rest more begins e)
some-records text rest follows number begins right (Some n) more few e =
    let parts = right n 44 (drop 1 (format_label ++ more)) few refl (e ∙ append_assoc records_label (decimal n) (format_label ++ more)) in
    (ap Some parts.0, parts.1)

-- If that label does not come next, there is no number of records.
pub none-records : (text : List ℕ) → ((rest : List ℕ) → text ≡ records_label ++ rest → ⊥)
    → (distrusts : Option ℕ) (more : List ℕ) → IfSome distrusts (λ n. n < 2 ^ 64)
    → text ≡ distrusts_part distrusts ++ (format_label ++ more) → (None ≡ distrusts) × (text ≡ format_label ++ more)
none-records text none None more few e = (refl, e)
none-records text none (Some n) more few e =
    absurd (none (decimal n ++ (format_label ++ more))
    (e ∙ append_assoc records_label (decimal n) (format_label ++ more)))
