-- Which receipts are taken, line by line.
use Rattle.std.proofs.Common.{◌≡◌, ◌<◌, ℕ, ◌+◌, List, [], ◌∷◌, ◌++◌, length, inl, inr, refl, sym, ap, ◌∙◌, subst, arith}
use Rattle.std.specs.Prelude.{Contains}
use Rattle.std.specs.List.{AllByRecursion}
use Rattle.std.specs.List.Sorted.{IsStrictlySortedBy}
use Rattle.std.proofs.lemmas.List.Elements.{Contains-append_left, Contains-push, Contains-push_cases}
use Rattle.fed_config.specs.Configuration.{Configuration, IsConfiguration}
use Rattle.receipt_core.specs.Acceptance.{IsFitting}
use Rattle.receipt_core.specs.Line.{IsLine}
use Rattle.receipt_core.specs.Order.{receipt_total}
use Rattle.receipt_core.specs.Receipt.{Receipt, IsReceipt, line, receipt_cmp, with_receipt}
use Rattle.receipt_core.specs.Sets.{AreSets}
use Rattle.receipt_core.proofs.LineFacts.{one_line, one_receipt}
use Rattle.receipt_core.proofs.ReadFacts.{length-line}
use Rattle.receipt_core.proofs.RisingFacts.{Contains-from_has, all_from_has, AreSets-from_total}
use Rattle.closure_core.specs.Refusals.{IsOfUnknownDomain, IsBelowFloor}
use Rattle.closure_core.proofs.FitFacts.{fits_known, fits_right, fits_above, wrong_known, low_known, low_right}
use Rattle.fedbundle.specs.Stream.{IsTaken, AreTaken, IsRefusedLine}
use Rattle.fedbundle.specs.declared.line_fault.LineFault.{LineFault}
use Rattle.fedbundle.specs.declared.line_fault.LineFault.TheVariants.{NotCanonical, TooLong, UnknownDomain, WrongEndpoint, BelowFloor, Cut}

-- ---- what is refused is not taken

-- a refused line is not the line of a receipt that fits
pub untaken : (c : Configuration) (text : List ℕ) (why : LineFault) → IsConfiguration c → IsRefusedLine c text why
    → (r : Receipt) → IsReceipt r → IsFitting c r → text ≡ line r → ⊥
untaken c text NotCanonical is refused r receipt fits e = refused.1 r (record { is = receipt; text = e })
untaken c text TooLong is refused r receipt fits e = let same = ap length e in omega (arith, length-line r receipt)
untaken c text UnknownDomain is (s, read, unknown) r receipt fits e =
    let same : r ≡ s = one_line r s receipt read.is (sym e ∙ read.text) in
    fits_known c s (subst (IsFitting c) same fits) unknown
untaken c text WrongEndpoint is (s, read, wrong) r receipt fits e =
    let same : r ≡ s = one_line r s receipt read.is (sym e ∙ read.text) in
    fits_right c s is (subst (IsFitting c) same fits) wrong
untaken c text BelowFloor is (s, read, low) r receipt fits e =
    let same : r ≡ s = one_line r s receipt read.is (sym e ∙ read.text) in
    fits_above c s (subst (IsFitting c) same fits) low
untaken c text Cut is refused r receipt fits e = absurd refused

-- what holds of the receipt of a line holds of each receipt of that line
same_read : (P : Receipt → Type 0) (text : List ℕ) (r s : Receipt) → IsLine text r → IsLine text s → P r → P s
same_read P text r s read again holds = subst P (one_line r s read.is again.is (sym read.text ∙ again.text)) holds

-- the line of a receipt is not too long
not_too_long : (text : List ℕ) (r : Receipt) → IsLine text r → 8388608 < length text → ⊥
not_too_long text r read long = let same = ap length read.text in omega (arith, long, length-line r read.is)

-- a line is refused for one cause at most
pub one_cause : (c : Configuration) (text : List ℕ) (a b : LineFault) → IsConfiguration c → IsRefusedLine c text a → IsRefusedLine c text b → a ≡ b
one_cause c text NotCanonical NotCanonical is p q = refl
one_cause c text NotCanonical TooLong is p q = absurd (omega (arith, p.0, q))
one_cause c text NotCanonical UnknownDomain is p q = absurd (p.1 q.0 q.1)
one_cause c text NotCanonical WrongEndpoint is p q = absurd (p.1 q.0 q.1)
one_cause c text NotCanonical BelowFloor is p q = absurd (p.1 q.0 q.1)
one_cause c text TooLong NotCanonical is p q = absurd (omega (arith, p, q.0))
one_cause c text TooLong TooLong is p q = refl
one_cause c text TooLong UnknownDomain is p q = absurd (not_too_long text q.0 q.1 p)
one_cause c text TooLong WrongEndpoint is p q = absurd (not_too_long text q.0 q.1 p)
one_cause c text TooLong BelowFloor is p q = absurd (not_too_long text q.0 q.1 p)
one_cause c text UnknownDomain NotCanonical is p q = absurd (q.1 p.0 p.1)
one_cause c text UnknownDomain TooLong is p q = absurd (not_too_long text p.0 p.1 q)
one_cause c text UnknownDomain UnknownDomain is p q = refl
one_cause c text UnknownDomain WrongEndpoint is p q = absurd (wrong_known c q.0 q.2 (same_read (IsOfUnknownDomain c) text p.0 q.0 p.1 q.1 p.2))
one_cause c text UnknownDomain BelowFloor is p q = absurd (low_known c q.0 q.2 (same_read (IsOfUnknownDomain c) text p.0 q.0 p.1 q.1 p.2))
one_cause c text WrongEndpoint NotCanonical is p q = absurd (q.1 p.0 p.1)
one_cause c text WrongEndpoint TooLong is p q = absurd (not_too_long text p.0 p.1 q)
one_cause c text WrongEndpoint UnknownDomain is p q = absurd (wrong_known c p.0 p.2 (same_read (IsOfUnknownDomain c) text q.0 p.0 q.1 p.1 q.2))
one_cause c text WrongEndpoint WrongEndpoint is p q = refl
one_cause c text WrongEndpoint BelowFloor is p q = absurd (low_right c p.0 is (same_read (IsBelowFloor c) text q.0 p.0 q.1 p.1 q.2) p.2)
one_cause c text BelowFloor NotCanonical is p q = absurd (q.1 p.0 p.1)
one_cause c text BelowFloor TooLong is p q = absurd (not_too_long text p.0 p.1 q)
one_cause c text BelowFloor UnknownDomain is p q = absurd (low_known c p.0 p.2 (same_read (IsOfUnknownDomain c) text q.0 p.0 q.1 p.1 q.2))
one_cause c text BelowFloor WrongEndpoint is p q = absurd (low_right c q.0 is (same_read (IsBelowFloor c) text p.0 q.0 p.1 q.1 p.2) q.2)
one_cause c text BelowFloor BelowFloor is p q = refl
one_cause c text Cut b is p q = absurd p
one_cause c text NotCanonical Cut is p q = absurd q
one_cause c text TooLong Cut is p q = absurd q
one_cause c text UnknownDomain Cut is p q = absurd q
one_cause c text WrongEndpoint Cut is p q = absurd q
one_cause c text BelowFloor Cut is p q = absurd q

-- the line of a receipt that fits is not refused
pub unrefused : (c : Configuration) (text : List ℕ) (r : Receipt) (why : LineFault) → IsConfiguration c → IsLine text r
    → IsFitting c r → IsRefusedLine c text why → ⊥
unrefused c text r why is read fits refused = untaken c text why is refused r read.is fits read.text

-- ---- one line more

-- of no lines nothing is taken
pub taken_none : (c : Configuration) → AreTaken c [] []
unfolding IsStrictlySortedBy
taken_none c = record {
  rising = tt;
  sound = λ r has. absurd (omega (arith, has.1));
  complete = λ r taken. absurd (let has = taken.placed in omega (arith, has.1));
}

-- a receipt that is taken of lines is taken of more
taken_before : (c : Configuration) (texts more : List (List ℕ)) (r : Receipt) → IsTaken c texts r → IsTaken c (texts ++ more) r
taken_before c texts more r taken = record { is = taken.is; fits = taken.fits; placed = Contains-append_left texts more (line r) taken.placed }

-- the same for lines that begin with those
pub taken_within : (c : Configuration) (texts more whole : List (List ℕ)) (r : Receipt) → whole ≡ texts ++ more → IsTaken c texts r → IsTaken c whole r
taken_within c texts more whole r e taken = subst (λ (t : List (List ℕ)). IsTaken c t r) (sym e) (taken_before c texts more r taken)

-- a line without a receipt that fits adds nothing to take
pub taken_same : (c : Configuration) (texts : List (List ℕ)) (text : List ℕ) (receipts : List Receipt) → AreTaken c texts receipts
    → ((r : Receipt) → IsReceipt r → IsFitting c r → text ≡ line r → ⊥) → AreTaken c (texts ++ text ∷ []) receipts
taken_same c texts text receipts taken none = record {
  rising = taken.rising;
  sound = λ r has. taken_before c texts (text ∷ []) r (taken.sound r has);
  complete = λ r is. elim (Contains-push_cases texts text (line r) is.placed) [
    | inl before ↦ taken.complete r (record { is = is.is; fits = is.fits; placed = before })
    | inr e ↦ absurd (none r is.is is.fits e)
  ];
}

-- receipts are kept as sets
sets : AreSets IsReceipt receipt_cmp
sets = AreSets-from_total IsReceipt receipt_cmp receipt_total one_receipt

-- all that is taken are receipts in their form
pub all_receipts : (c : Configuration) (texts : List (List ℕ)) (receipts : List Receipt) → AreTaken c texts receipts → AllByRecursion IsReceipt receipts
all_receipts c texts receipts taken = all_from_has IsReceipt receipts (λ r has. (taken.sound r (Contains-from_has receipts r has)).is)

-- a line with a receipt that fits adds it to what is taken
pub taken_more : (c : Configuration) (texts : List (List ℕ)) (text : List ℕ) (r : Receipt) (receipts : List Receipt)
    → AreTaken c texts receipts → IsLine text r → IsFitting c r
    → AreTaken c (texts ++ text ∷ []) (with_receipt r receipts)
taken_more c texts text r receipts taken read fits =
    let all = all_receipts c texts receipts taken in
    record {
      rising = sets.rises r receipts taken.rising;
      sound = λ s has. elim ((sets.members r s receipts read.is all).0 has) [
        | inl e ↦ subst (IsTaken c (texts ++ text ∷ [])) e
            (record {
              is = read.is;
              fits = fits;
              placed =
                  subst (Contains (texts ++ text ∷ [])) read.text (Contains-push texts text);
            })
        | inr before ↦ taken_before c texts (text ∷ []) s (taken.sound s before)
      ];
      complete = λ s is. (sets.members r s receipts read.is all).1 (elim (Contains-push_cases texts text (line s) is.placed) [
        | inl before ↦ inr (taken.complete s (record { is = is.is; fits = is.fits; placed = before }))
        | inr e ↦ inl (one_line r s read.is is.is (sym read.text ∙ e))
      ]);
    }

-- a receipt that was taken already changes nothing
pub held_already : (c : Configuration) (texts : List (List ℕ)) (r : Receipt) (receipts : List Receipt)
    → AreTaken c texts receipts → Contains receipts r → with_receipt r receipts ≡ receipts
held_already c texts r receipts taken has = sets.present r receipts taken.rising has

-- a new receipt makes what is held one longer
pub one_longer : (c : Configuration) (texts : List (List ℕ)) (r : Receipt) (receipts : List Receipt)
    → AreTaken c texts receipts → IsReceipt r → (Contains receipts r → ⊥)
    → length (with_receipt r receipts) ≡ length receipts + 1
one_longer c texts r receipts taken is unheld = sets.longer r receipts is (all_receipts c texts receipts taken) unheld
