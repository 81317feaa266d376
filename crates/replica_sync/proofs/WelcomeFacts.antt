-- If all that an answer brings can be held, no line of it is refused.
use Rattle.std.proofs.Common.{◌≡◌, ◌≢◌, ℕ, ◌<◌, ◌≤◌, inl, inr, List, [], ◌∷◌, ◌++◌, length, map, refl, ap, sym, ◌∙◌, subst, arith, append_assoc}
use Rattle.std.specs.List.{AllByRecursion}
use Rattle.std.specs.List.Sorted.{IsStrictlySortedBy}
use Rattle.std.specs.declared.cmp.Ordering.{Ordering}
use Rattle.std.proofs.lemmas.List.Sums.{fold-append}
use Rattle.fed_config.specs.Configuration.{Configuration, HasDomain, IsConfiguration}
use Rattle.receipt_core.specs.Order.{receipt_total, distrust_total}
use Rattle.receipt_core.specs.declared.distrust.Distrust.{Distrust}
use Rattle.receipt_core.specs.Receipt.{Receipt, IsDistrust, IsReceipt, distrust_cmp, distrust_line, line, receipt_cmp}
use Rattle.receipt_core.specs.Rising.{with_item, with_items}
use Rattle.receipt_core.specs.Acceptance.{IsFitting, Meaning, IsMeaning}
use Rattle.receipt_core.proofs.LineFacts.{one_distrust, one_line, one_receipt, one_record}
use Rattle.receipt_core.proofs.RisingFacts.{Contains-from_has, Has, IsExactOn, all_from_has, each_has, with_item-length, with_items-all, with_items-keeps}
use Rattle.receipt_core.proofs.RisingFacts.{with_items-new, with_items-rising}
use Rattle.closure_core.specs.declared.error.TakeError.{TakeError}
use Rattle.closure_core.specs.declared.error.TakeError.TheVariants.{UnknownDomain, WrongEndpoint, BelowFloor, Full, ConfigDiffers as OtherConfig}
use Rattle.closure_core.specs.declared.error.TakeError.TheVariants.{NoMemory as NoTakeMemory}
use Rattle.replica_core.specs.State.{State, joined, meaning_of_state}
use Rattle.replica_core.specs.Session.{GiveMessage, state_of}
use Rattle.replica_core.specs.Absorbing.{RefusesEntry}
use Rattle.replica_core.specs.declared.entry.Entry.{Entry}
use Rattle.replica_core.specs.declared.entry.Entry.TheVariants.{Record, Receipt as AReceipt}
use Rattle.closure_core.proofs.FitFacts.{fits_right, fits_above}
use Rattle.replica_texts.specs.Entries.{IsRefused, IsWanted, entry_line}
use Rattle.replica_texts.specs.declared.entry_line.Wanted.{Wanted}
use Rattle.replica_texts.specs.declared.entry_line.Wanted.TheVariants.{Records, Receipts, Either}
use Rattle.replica_texts.specs.Gives.{IsContent, content_lines}
use Rattle.replica_sync.specs.Pulling.{after_gives}
use Rattle.replica_texts.proofs.OneFacts.{apart}
use Rattle.replica_sync.proofs.PullingFacts.{longer_with_items}

-- ---- what is held only grows

-- both sets are kept as sorted lists
pub record IsRisingState (state : State) : Type 0 where
  pub receipts : IsStrictlySortedBy receipt_cmp state.held
  pub records : IsStrictlySortedBy distrust_cmp state.records

-- The larger has all that the smaller has.
pub record IsWithin (small large : State) : Type 0 where
  pub receipts : (r : Receipt) → Has small.held r → Has large.held r
  pub records : (x : Distrust) → Has small.records x → Has large.records x
  pub few : length small.held ≤ length large.held
  pub few_records : length small.records ≤ length large.records

-- The sets of a replica are.
pub rising-meaning : (m : Meaning) → IsMeaning m → IsRisingState (state_of m)
rising-meaning m valid = record { receipts = valid.rising; records = valid.records_rising }

-- A join keeps that.
pub rising-joined : (state gain : State) → IsRisingState state → IsRisingState (joined state gain)
rising-joined state gain rising = record {
  receipts = with_items-rising receipt_cmp receipt_total gain.held state.held rising.receipts;
  records = with_items-rising distrust_cmp distrust_total gain.records state.records rising.records;
}

-- A state is within each of its joins.
pub within-joined : (state gain : State) → IsWithin state (joined state gain)
within-joined state gain = record {
  receipts = λ r h. with_items-keeps receipt_cmp gain.held state.held r h;
  records = λ x h. with_items-keeps distrust_cmp gain.records state.records x h;
  few = longer_with_items receipt_cmp gain.held state.held;
  few_records = longer_with_items distrust_cmp gain.records state.records;
}

-- A state is within itself.
pub within-itself : (state : State) → IsWithin state state
within-itself state = record { receipts = λ r h. h; records = λ x h. h; few = omega arith; few_records = omega arith }

-- What is within a state that is within another is within that.
within-both : (a b c : State) → IsWithin a b → IsWithin b c → IsWithin a c
within-both a b c p q = record {
  receipts = λ r h. q.receipts r (p.receipts r h);
  records = λ x h. q.records x (p.records x h);
  few = let first = p.few in let second = q.few in omega (arith, first, second);
  few_records = let first = p.few_records in let second = q.few_records in omega (arith, first, second);
}

-- Replies keep the sets sorted.
pub rising-after : (state : State) (gives : List GiveMessage) → IsRisingState state → IsRisingState (after_gives state gives)
rising-after state [] rising = rising
rising-after state (r ∷ gives) rising = rising-after (joined state r.content) gives (rising-joined state r.content rising)

-- A state is within what it is after gives.
pub within-after : (state : State) (gives : List GiveMessage) → IsWithin state (after_gives state gives)
within-after state [] = within-itself state
within-after state (r ∷ gives) =
    within-both state (joined state r.content) (after_gives state (r ∷ gives)) (within-joined state r.content)
    (within-after (joined state r.content) gives)

-- of what a replica can hold, a replica can hold each part
pub meaning-within : (c : Configuration) (small large : State) → IsWithin small large → IsRisingState small
    → IsMeaning (meaning_of_state c large) → IsMeaning (meaning_of_state c small)
meaning-within c small large part rising valid = record {
  receipts = all_from_has IsReceipt small.held (λ r h. each_has IsReceipt large.held r valid.receipts (part.receipts r h));
  rising = rising.receipts;
  fitting = all_from_has (IsFitting c) small.held (λ r h. each_has (IsFitting c) large.held r valid.fitting (part.receipts r h));
  few = let less = part.few in let few = valid.few in omega (arith, less, few);
  distrusts = all_from_has IsDistrust small.records (λ x h. each_has IsDistrust large.records x valid.distrusts (part.records x h));
  records_rising = rising.records;
  domains = all_from_has (λ x. HasDomain c x.domain) small.records
      (λ x h. each_has (λ y. HasDomain c y.domain) large.records x valid.domains (part.records x h));
  few_records = let less = part.few_records in let few = valid.few_records in omega (arith, less, few);
}

-- ---- the item of the next line

-- The list is a front, the item, and more.
record IsSplit {A : Type 0} (whole front : List A) (item : A) : Type 0 where
  pub later : List A
  pub parts : whole ≡ front ++ item ∷ later

-- The same split behind one more item that both lists have.
one-further : {A : Type 0} (x y item : A) (xs ys : List A) → x ≡ y → IsSplit xs ys item → IsSplit (x ∷ xs) (y ∷ ys) item
one-further x y item xs ys same split = record { later = split.later; parts = λ i. same i ∷ split.parts i }

-- Lines that continue after those of some receipts are those of a list that continues so.
split-receipts : (whole front : List Receipt) (r : Receipt) (later : List (List ℕ)) → AllByRecursion IsReceipt whole
    → AllByRecursion IsReceipt front → IsReceipt r → map line whole ≡ map line front ++ line r ∷ later → IsSplit whole front r
split-receipts [] [] r later ps qs is e = absurd (cc)
split-receipts [] (y ∷ ys) r later ps qs is e = absurd (cc)
split-receipts (x ∷ xs) [] r later ps qs is e =
    let head : line x ≡ line r = cc in
    record { later = xs; parts = λ i. one_line x r ps.0 is head i ∷ xs }
split-receipts (x ∷ xs) (y ∷ ys) r later ps qs is e =
    let head : line x ≡ line y = cc in
    let tail : map line xs ≡ map line ys ++ line r ∷ later = cc in
    one-further x y r xs ys (one_line x y ps.0 qs.0 head) (split-receipts xs ys r later ps.1 qs.1 is tail)

-- no line of a record is among receipts' lines
no-record : (receipts front : List Receipt) (x : Distrust) (later : List (List ℕ)) → AllByRecursion IsReceipt receipts
    → IsDistrust x → map line receipts ≡ map line front ++ distrust_line x ∷ later → ⊥
no-record [] [] x later ps is e = absurd (cc)
no-record [] (y ∷ ys) x later ps is e = absurd (cc)
no-record (r ∷ rs) [] x later ps is e = apart x r is ps.0 (let head : distrust_line x ≡ line r = cc in head)
no-record (r ∷ rs) (y ∷ ys) x later ps is e =
    let tail : map line rs ≡ map line ys ++ distrust_line x ∷ later = cc in
    no-record rs ys x later ps.1 is tail

-- what comes after the lines of a beginning: that of a receipt
receipt-after : (xs ys : List Distrust) (rs front : List Receipt) (r : Receipt) (later : List (List ℕ))
    → AllByRecursion IsDistrust xs → AllByRecursion IsDistrust ys → AllByRecursion IsReceipt rs → AllByRecursion IsReceipt front → IsReceipt r
    → map distrust_line xs ++ map line rs ≡ map distrust_line ys ++ (map line front ++ line r ∷ later) → IsSplit rs front r
receipt-after [] [] rs front r later p q h k is e = split-receipts rs front r later h k is e
receipt-after [] (y ∷ ys) [] front r later p q h k is e = absurd (cc)
receipt-after [] (y ∷ ys) (s ∷ ss) front r later p q h k is e = absurd (apart y s q.0 h.0 (let head : distrust_line y ≡ line s = cc in head))
receipt-after (x ∷ xs) [] rs [] r later p q h k is e = absurd (apart x r p.0 is (let head : distrust_line x ≡ line r = cc in head))
receipt-after (x ∷ xs) [] rs (s ∷ ss) r later p q h k is e = absurd (apart x s p.0 k.0 (let head : distrust_line x ≡ line s = cc in head))
receipt-after (x ∷ xs) (y ∷ ys) rs front r later p q h k is e =
    let tail : map distrust_line xs ++ map line rs ≡ map distrust_line ys ++ (map line front ++ line r ∷ later) = cc in
    receipt-after xs ys rs front r later p.1 q.1 h k is tail

-- that of a record
record-after : (xs ys : List Distrust) (rs front : List Receipt) (x : Distrust) (later : List (List ℕ))
    → AllByRecursion IsDistrust xs → AllByRecursion IsDistrust ys → AllByRecursion IsReceipt rs → AllByRecursion IsReceipt front → IsDistrust x
    → map distrust_line xs ++ map line rs ≡ map distrust_line ys ++ (map line front ++ distrust_line x ∷ later) → IsSplit xs ys x
record-after [] [] rs front x later p q h k is e = absurd (no-record rs front x later h is e)
record-after [] (y ∷ ys) [] front x later p q h k is e = absurd (cc)
record-after [] (y ∷ ys) (s ∷ ss) front x later p q h k is e = absurd (apart y s q.0 h.0 (let head : distrust_line y ≡ line s = cc in head))
record-after (z ∷ zs) [] rs [] x later p q h k is e =
    let head : distrust_line z ≡ distrust_line x = cc in
    record { later = zs; parts = λ i. one_record z x p.0 is head i ∷ zs }
record-after (z ∷ zs) [] rs (s ∷ ss) x later p q h k is e = absurd (apart z s p.0 k.0 (let head : distrust_line z ≡ line s = cc in head))
record-after (z ∷ zs) (y ∷ ys) rs front x later p q h k is e =
    let head : distrust_line z ≡ distrust_line y = cc in
    let tail : map distrust_line zs ++ map line rs ≡ map distrust_line ys ++ (map line front ++ distrust_line x ∷ later) = cc in
    one-further z y x zs ys (one_record z y p.0 q.0 head) (record-after zs ys rs front x later p.1 q.1 h k is tail)

-- ---- there is room for it

-- A list has the item between its parts.
has-middle : {A : Type 0} (front : List A) (item : A) (later : List A) → Has (front ++ item ∷ later) item
has-middle [] item later = inl refl
has-middle (y ∷ front) item later = inr (has-middle front item later)

-- with a new one and others, the set is longer
longer-set : {A : Type 0} (P : A → Type 0) (cmp : A → A → Ordering) → IsExactOn P cmp → (whole front set : List A) (item : A)
    → IsSplit whole front item → P item → AllByRecursion P (with_items cmp front set) → (Has (with_items cmp front set) item → ⊥)
    → length (with_items cmp front set) < length (with_items cmp whole set)
longer-set P cmp exact whole front set item split is all absent =
    let before = with_items cmp front set in
    let one = with_item-length P cmp exact item before is all absent in
    let more = longer_with_items cmp split.later (with_item cmp item before) in
    let same = ap length (ap (λ xs. with_items cmp xs set) split.parts ∙ fold-append (λ old x. with_item cmp x old) set front (item ∷ split.later)) in
    omega (arith, one, more, same)

-- Receipts that are equal in their order are one.
pub exact-receipts : IsExactOn IsReceipt receipt_cmp
exact-receipts a b p q e = one_receipt a b p q e

-- Records that are equal in their order are one.
pub exact-records : IsExactOn IsDistrust distrust_cmp
exact-records a b p q e = one_distrust a b e

module _ (c : Configuration) (configured : IsConfiguration c) (state whole content : State) (rising : IsRisingState state)
    (valid : IsMeaning (meaning_of_state c (joined state whole))) (is : IsContent whole) (begun : IsContent content) where
  own : IsMeaning (meaning_of_state c state)
  own = meaning-within c state (joined state whole) (within-joined state whole) rising valid

  receipt-fits : (r : Receipt) → IsSplit whole.held content.held r → IsFitting c r
  receipt-fits r split =
      each_has (IsFitting c) (joined state whole).held r valid.fitting
      (with_items-new IsReceipt receipt_cmp exact-receipts whole.held state.held is.receipts own.receipts r
      (subst (λ xs. Has xs r) (sym split.parts) (has-middle content.held r split.later)))

  record-known : (x : Distrust) → IsSplit whole.records content.records x → HasDomain c x.domain
  record-known x split =
      each_has (λ (y : Distrust). HasDomain c y.domain) (joined state whole).records x valid.domains
      (with_items-new IsDistrust distrust_cmp exact-records whole.records state.records is.records own.distrusts x
      (subst (λ xs. Has xs x) (sym split.parts) (has-middle content.records x split.later)))

  taken-receipts : AllByRecursion IsReceipt (joined state content).held
  taken-receipts = with_items-all IsReceipt receipt_cmp content.held state.held begun.receipts own.receipts

  no-receipt-refused : (r : Receipt) (why : TakeError) → IsReceipt r → IsSplit whole.held content.held r → why ≢ NoTakeMemory
      → RefusesEntry (meaning_of_state c (joined state content)) (AReceipt r) why → ⊥
  no-receipt-refused r UnknownDomain form split ample h =
      let fits = receipt-fits r split in
      h fits.relationship fits.has fits.domain
  no-receipt-refused r WrongEndpoint form split ample h = fits_right c r configured (receipt-fits r split) h
  no-receipt-refused r BelowFloor form split ample h = fits_above c r (receipt-fits r split) h
  no-receipt-refused r Full form split ample h =
      let longer = longer-set IsReceipt receipt_cmp exact-receipts whole.held content.held state.held r split form taken-receipts
      (λ k. h.unheld (Contains-from_has (joined state content).held r k)) in
      let few = valid.few in
      let full = h.full in
      omega (arith, longer, few, full)
  no-receipt-refused r NoTakeMemory form split ample h = ample refl
  no-receipt-refused r OtherConfig form split ample h = h

  taken-records : AllByRecursion IsDistrust (joined state content).records
  taken-records = with_items-all IsDistrust distrust_cmp content.records state.records begun.records own.distrusts

  no-record-refused : (x : Distrust) (why : TakeError) → IsDistrust x → IsSplit whole.records content.records x → why ≢ NoTakeMemory
      → RefusesEntry (meaning_of_state c (joined state content)) (Record x) why → ⊥
  no-record-refused x UnknownDomain form split ample h = h (record-known x split)
  no-record-refused x WrongEndpoint form split ample h = h
  no-record-refused x BelowFloor form split ample h = h
  no-record-refused x Full form split ample h =
      let longer = longer-set IsDistrust distrust_cmp exact-records whole.records content.records state.records x split form taken-records
      (λ k. h.unheld (Contains-from_has (joined state content).records x k)) in
      let few = valid.few_records in
      let full = h.full in
      omega (arith, longer, few, full)
  no-record-refused x NoTakeMemory form split ample h = ample refl
  no-record-refused x OtherConfig form split ample h = h

  no-entry-refused : (wanted : Wanted) (entry : Entry) (why : TakeError) (later : List (List ℕ)) → IsWanted wanted entry
      → content_lines whole ≡ content_lines content ++ entry_line entry ∷ later → why ≢ NoTakeMemory
      → RefusesEntry (meaning_of_state c (joined state content)) entry why → ⊥
  no-entry-refused Records (Record x) why later form e ample h =
      no-record-refused x why form
      (record-after whole.records content.records whole.held content.held x later is.records begun.records is.receipts begun.receipts form
      (e ∙ append_assoc (map distrust_line content.records) (map line content.held) (distrust_line x ∷ later))) ample h
  no-entry-refused Records (AReceipt r) why later form e ample h = form
  no-entry-refused Receipts (Record x) why later form e ample h = form
  no-entry-refused Receipts (AReceipt r) why later form e ample h =
      no-receipt-refused r why form
      (receipt-after whole.records content.records whole.held content.held r later is.records begun.records is.receipts begun.receipts form
      (e ∙ append_assoc (map distrust_line content.records) (map line content.held) (line r ∷ later))) ample h
  no-entry-refused Either (Record x) why later form e ample h =
      no-record-refused x why form
      (record-after whole.records content.records whole.held content.held x later is.records begun.records is.receipts begun.receipts form
      (e ∙ append_assoc (map distrust_line content.records) (map line content.held) (distrust_line x ∷ later))) ample h
  no-entry-refused Either (AReceipt r) why later form e ample h =
      no-receipt-refused r why form
      (receipt-after whole.records content.records whole.held content.held r later is.records begun.records is.receipts begun.receipts form
      (e ∙ append_assoc (map distrust_line content.records) (map line content.held) (line r ∷ later))) ample h

  -- the line after this beginning of the answer is not refused
  pub none-refused : (wanted : Wanted) (last text : List ℕ) (later : List (List ℕ)) (why : TakeError)
      → content_lines whole ≡ content_lines content ++ text ∷ later → why ≢ NoTakeMemory
      → IsRefused wanted (meaning_of_state c (joined state content)) last text why → ⊥
  none-refused wanted last text later why e ample h =
      no-entry-refused wanted h.entry why later h.next.is.is
      (e ∙ ap (λ (t : List ℕ). content_lines content ++ t ∷ later) h.next.is.spelt) ample h.cause
