-- The room that receipts take: that of those that are not held, each counted once.
use Rattle.std.proofs.Common.{◌≡◌, ℕ, zero, suc, ◌+◌, ◌^◌, ◌<◌, ◌≤◌, ◌⊎◌, inl, inr, true, false, List}
use Rattle.std.proofs.Common.{[], ◌∷◌, length, take, get_or, refl, sym, ap, ◌∙◌, subst, arith}
use Rattle.std.specs.Prelude.{Contains, Option, Some, None}
use Rattle.std.specs.declared.cmp.Ordering.{Ordering}
use Rattle.std.specs.declared.cmp.Ordering.TheVariants.{Less, Equal, Greater}
use Rattle.std.specs.List.{AllByRecursion}
use Rattle.std.proofs.lemmas.List.Sums.{sum_by-cons}
use Rattle.receipt_core.specs.Receipt.{Receipt, IsReceipt, receipt_cmp, offers_of, pair_of}
use Rattle.receipt_core.specs.Rising.{placed, with_item, with_items}
use Rattle.receipt_core.specs.Sets.{AreSets}
use Rattle.receipt_core.specs.Acceptance.{Meaning, IsMeaning}
use Rattle.std.specs.Prelude.{Result, Ok, Err, IsOk, OnOk, MatchResult}
use Rattle.closure_core.specs.Changes.{HeldAndRoom as ClosureState}
use Rattle.closure_core.specs.Refusals.{Room, IsRoomier, offers_count}
use Rattle.replica_core.specs.Absorbing.{room_for, BringsNew, IsBeyondRoom}
use Rattle.replica_core.specs.Inside.FreePlaces.{CountsNew}
use Rattle.replica_core.proofs.UnwelcomeFacts.{take-next, with_items-push, all-push}
use Rattle.replica_core.proofs.ContainsFacts.{contains-here, contains-later}

-- how many offers a receipt has
abbrev offers_in : Receipt → ℕ
offers_in r = length (offers_of (pair_of r))

-- The offers of a list are those of its first receipt and of the later ones.
offers-first : (r : Receipt) (later : List Receipt) → offers_count (r ∷ later) ≡ offers_in r + offers_count later
offers-first r later = sum_by-cons offers_in r later

-- A receipt adds no more than its own offers, wherever it is put, and takes none away.
placed_offers : (o : Ordering) (r head : Receipt) (rest longer : List Receipt) → (o ≡ Equal → ⊥)
    → offers_count longer ≡ offers_count rest + offers_in r → offers_count (placed o r head rest longer) ≡ offers_count (head ∷ rest) + offers_in r
placed_offers Less r head rest longer other e = let first = offers-first r (head ∷ rest) in omega (arith, first)
placed_offers Equal r head rest longer other e = absurd (other refl)
placed_offers Greater r head rest longer other e =
    let first = offers-first head rest in
    let second = offers-first head longer in
    omega (arith, first, second, e)

-- A receipt that is not held adds its own offers.
pub offers-new : AreSets IsReceipt receipt_cmp → (r : Receipt) (set : List Receipt) → IsReceipt r → AllByRecursion IsReceipt set
    → (Contains set r → ⊥) → offers_count (with_item receipt_cmp r set) ≡ offers_count set + offers_in r
offers-new sets r [] form forms unheld = let first = offers-first r [] in omega (arith, first)
offers-new sets r (head ∷ rest) form forms unheld =
    placed_offers (receipt_cmp r head) r head rest (with_item receipt_cmp r rest)
    (λ tied. unheld (subst (Contains (head ∷ rest)) (sym (sets.exact r head form forms.0 tied)) (contains-here head rest)))
    (offers-new sets r rest form forms.1 (λ has. unheld (contains-later head rest r has)))

-- No offers are lost by a receipt that comes, wherever it is put; for `offer-grow`.
placed_grow : (o : Ordering) (r head : Receipt) (rest longer : List Receipt) → offers_count rest ≤ offers_count longer
    → offers_count (head ∷ rest) ≤ offers_count (placed o r head rest longer)
placed_grow Less r head rest longer e = let first = offers-first r (head ∷ rest) in omega (arith, first)
placed_grow Equal r head rest longer e = omega arith
placed_grow Greater r head rest longer e =
    let first = offers-first head rest in
    let second = offers-first head longer in
    omega (arith, first, second, e)

-- No offers are lost by a receipt that comes.
offer-grow : (r : Receipt) (set : List Receipt) → offers_count set ≤ offers_count (with_item receipt_cmp r set)
offer-grow r [] = let first = offers-first r [] in omega (arith, first)
offer-grow r (head ∷ rest) = placed_grow (receipt_cmp r head) r head rest (with_item receipt_cmp r rest) (offer-grow r rest)

-- No offers are lost by receipts that come: what the later ones take is part of what all take.
pub offers-grow : (items set : List Receipt) → offers_count set ≤ offers_count (with_items receipt_cmp items set)
offers-grow [] set = omega arith
offers-grow (r ∷ items) set =
    let one = offer-grow r set in
    let more = offers-grow items (with_item receipt_cmp r set) in
    omega (arith, one, more)

-- ---- counted one by one

-- Among the first receipts this many are new, each counted once, and have this many offers.
pub record IsCounted (m : Meaning) (rs : List Receipt) (i count offers : ℕ) : Type 0 where
  pub forms : AllByRecursion IsReceipt (take i rs)
  pub count_is : length (with_items receipt_cmp (take i rs) m.held) ≡ length m.held + count
  pub offers_are : offers_count (with_items receipt_cmp (take i rs) m.held) ≡ offers_count m.held + offers
  pub some : ((count ≡ 0) × (offers ≡ 0)) ⊎ BringsNew m rs

module _ (sets : AreSets IsReceipt receipt_cmp) (m : Meaning) (is : IsMeaning m) (rs : List Receipt) (i count offers : ℕ)
    (so : IsCounted m rs i count offers) (r : Receipt) (low : i < length rs) (at : get_or rs i r ≡ r) (form : IsReceipt r) where
  -- The set with one receipt more.
  next_set : with_items receipt_cmp (take (i + 1) rs) m.held ≡ with_item receipt_cmp r (with_items receipt_cmp (take i rs) m.held)
  next_set = ap (λ (xs : List Receipt). with_items receipt_cmp xs m.held) (take-next rs i r low at) ∙ with_items-push receipt_cmp (take i rs) m.held r

  -- All of them are receipts, with the next one too.
  next_forms : AllByRecursion IsReceipt (take (i + 1) rs)
  next_forms = subst (AllByRecursion IsReceipt) (sym (take-next rs i r low at)) (all-push IsReceipt (take i rs) r so.forms form)

  -- A receipt that is held or came before counts nothing.
  pub counted-held : Contains (with_items receipt_cmp (take i rs) m.held) r → IsCounted m rs (i + 1) count offers
  counted-held has =
      let same = next_set ∙ sets.present r (with_items receipt_cmp (take i rs) m.held) (sets.all_rise (take i rs) m.held is.rising) has in
      record {
        forms = next_forms;
        count_is = ap length same ∙ so.count_is;
        offers_are = ap offers_count same ∙ so.offers_are;
        some = so.some;
      }

  -- A receipt that is neither is new.
  brings : (Contains (with_items receipt_cmp (take i rs) m.held) r → ⊥) → BringsNew m rs
  brings unheld = (r, (i, low, at), λ has. unheld ((sets.all_members (take i rs) m.held r so.forms is.receipts).1 (inr has)))

  -- A new receipt counts once, with its offers.
  pub counted-new : (Contains (with_items receipt_cmp (take i rs) m.held) r → ⊥) → IsCounted m rs (i + 1) (count + 1) (offers + offers_in r)
  counted-new unheld =
      let forms = sets.all_keep (take i rs) m.held so.forms is.receipts in
      let longer = sets.longer r (with_items receipt_cmp (take i rs) m.held) form forms unheld in
      let more = offers-new sets r (with_items receipt_cmp (take i rs) m.held) form forms unheld in
      let so_many = so.count_is in
      let so_much = so.offers_are in
      record {
        forms = next_forms;
        count_is = ap length next_set ∙ omega (arith, longer, so_many);
        offers_are = ap offers_count next_set ∙ omega (arith, more, so_much);
        some = inr (brings unheld);
      }

  -- With a new receipt's offers they are more than a number of 64 bits says.
  pub counted-over : (Contains (with_items receipt_cmp (take i rs) m.held) r → ⊥) → 2 ^ 64 ≤ offers + offers_in r → CountsNew m rs None
  counted-over unheld over =
      let now = (counted-new unheld).offers_are in
      let rest = offers-rest (i + 1) rs m.held in
      (brings unheld, omega (arith, now, rest, over))
    where
      offers-rest : (n : ℕ) (all set : List Receipt) → offers_count (with_items receipt_cmp (take n all) set) ≤ offers_count (with_items receipt_cmp all set)
      offers-rest zero [] set = omega arith
      offers-rest (suc n) [] set = omega arith
      offers-rest zero (x ∷ all) set = offers-grow (x ∷ all) set
      offers-rest (suc n) (x ∷ all) set = offers-rest n all (with_item receipt_cmp x set)

-- The same count, under other names of its numbers.
pub counted-as : (m : Meaning) (rs : List Receipt) (i count offers many much : ℕ) → many ≡ count → much ≡ offers → IsCounted m rs i count offers
    → IsCounted m rs i many much
counted-as m rs i count offers many much first second so = subst (λ n. IsCounted m rs i n much) (sym first)
    (subst (λ n. IsCounted m rs i count n) (sym second) so)

-- ---- room for what was counted

-- Room was asked for what is new: it is there, or something is new and there was not room for it.
pub made-room : {U E : Type 0} (old new : ClosureState) (rs : List Receipt) (found : Option (ℕ × ℕ)) (counted : ℕ × ℕ) (result : Result U E)
    → CountsNew old.meaning rs found → found ≡ Some counted
    → OnOk result (IsRoomier (record { receipts = counted.0; offers = counted.1 }) new.room)
    → (IsRoomier (record { receipts = counted.0; offers = counted.1 }) old.room → IsOk result)
    → MatchResult result (λ _. IsRoomier (room_for old.meaning rs) new.room) (λ _. IsBeyondRoom old rs)
made-room old new rs found counted (Ok u) has is there within =
    let counts : CountsNew old.meaning rs (Some counted) = subst (CountsNew old.meaning rs) is has in
    subst (λ (room : Room). IsRoomier room new.room) (sym counts.0) there
made-room old new rs found counted (Err e) has is there within =
    let counts : CountsNew old.meaning rs (Some counted) = subst (CountsNew old.meaning rs) is has in
    record {
      some = elim counts.1 [
        | inl none ↦
            let first = none.0 in
            let second = none.1 in
            let f : false ≡ true = within record { receipts = omega (arith, first); offers = omega (arith, second) } in absurd (cc)
        | inr some ↦ some
      ];
      beyond = λ roomy. let f : false ≡ true = within (subst (λ (room : Room). IsRoomier room old.room) counts.0 roomy) in absurd (cc);
    }

-- There is never room for offers without a number of 64 bits.
pub beyond-all : (old : ClosureState) (rs : List Receipt) (found : Option (ℕ × ℕ)) → CountsNew old.meaning rs found → found ≡ None
    → old.room.offers < 2 ^ 64 → IsBeyondRoom old rs
beyond-all old rs found has is few =
    let counts : CountsNew old.meaning rs None = subst (CountsNew old.meaning rs) is has in
    let many = counts.1 in
    record { some = counts.0; beyond = λ roomy. let more = roomy.offers in absurd (omega (arith, many, more, few)) }

-- A growth that is always refused is answered by what keeps all from having room.
pub unmade-room : {U E : Type 0} (old new : ClosureState) (rs : List Receipt) (result : Result U E) → OnOk result ⊥ → IsBeyondRoom old rs
    → MatchResult result (λ _. IsRoomier (room_for old.meaning rs) new.room) (λ _. IsBeyondRoom old rs)
unmade-room old new rs (Ok u) refused beyond = absurd refused
unmade-room old new rs (Err e) refused beyond = beyond
