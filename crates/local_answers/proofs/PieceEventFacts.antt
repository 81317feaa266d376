-- What a replica holds by the pieces of an answer, as it holds it in a world by taking the answer's
-- first lines.
use Rattle.std.proofs.Common.{◌≡◌, ℕ, zero, suc, ◌-◌, ◌<◌, inl, inr, Bool, true, List, [], ◌∷◌, ◌++◌, length, take, refl, sym, ap, ◌∙◌}
use Rattle.std.proofs.Common.{append-nil, append_assoc, arith, subst, Option, Some}
use Rattle.std.specs.Prelude.{slice_get}
use Rattle.std.proofs.Math.Seq.{take-append_seam}
use Rattle.std.proofs.lemmas.List.{length-map, take-map}
use Rattle.std.proofs.lemmas.List.Sums.{fold-append}
use Rattle.std.specs.List.{AllByRecursion}
use Rattle.fed_config.specs.Configuration.{Configuration}
use Rattle.fed_config.specs.declared.limits.Limits.{Limits}
use Rattle.receipt_core.specs.Acceptance.{IsMeaning, Meaning}
use Rattle.receipt_core.specs.Order.{distrust_total, receipt_total}
use Rattle.receipt_core.specs.declared.distrust.Distrust.{Distrust}
use Rattle.receipt_core.specs.Receipt.{IsDistrust, IsReceipt, Receipt, distrust_cmp, receipt_cmp}
use Rattle.receipt_core.specs.Rising.{with_item, with_items}
use Rattle.receipt_core.proofs.LineFacts.{one_distrust, one_receipt}
use Rattle.receipt_core.proofs.RisingFacts.{Contains-from_has, Has-from_contains, with_item-new, with_item-present}
use Rattle.replica_core.specs.Absorbing.{entries_of, of_receipts, of_records, with_entries, with_entry}
use Rattle.replica_core.specs.Convergence.{IsPartOf}
use Rattle.replica_core.specs.Session.{state_of}
use Rattle.replica_core.specs.State.{State, first_of, is_within_limits, joined, limits_of}
use Rattle.replica_core.specs.World.{Message, Rules, World, apply, gained, give_sent, happens, takes_part, where_so, with_state}
use Rattle.replica_core.specs.declared.entry.Entry.{Entry}
use Rattle.replica_core.specs.declared.entry.Entry.TheVariants.{Record, Receipt as AReceipt}
use Rattle.replica_core.specs.declared.event.Event.TheVariants.{Absorb, Part}
use Rattle.replica_core.proofs.EventFacts.{replica-true}
use Rattle.replica_core.proofs.ExchangeFacts.{absorbed-is}
use Rattle.replica_core.proofs.RisingListFacts.{all_append}
use Rattle.replica_texts.specs.Gives.{IsContent}
use Rattle.replica_texts.specs.SoleLines.{IsWellFormed}
use Rattle.replica_journal.specs.Journal.{AreWellFormed}
use Rattle.replica_sync.specs.PulledPieces.{PulledGive, PulledPiece, TakesInTurn, pieces_of}
use Rattle.local_answers.specs.ChangeEvents.{IsPieceOf, IsPulledAmid, LosesNothing, sent_give}
use Rattle.local_answers.specs.Journalling.{HoldsEntry}
use Rattle.local_answers.proofs.ChangeEventFacts.{below-itself, below-one, below-within, meaning-holdable, same-config}

-- ---- what is held already

-- What is held and comes again changes nothing.
held-again : (m : Meaning) → IsMeaning m → (entry : Entry) → HoldsEntry m entry → with_entry entry m ≡ m
held-again m valid (Record x) has =
    ap (λ (xs : List Distrust). record m { records = xs })
    (with_item-present distrust_cmp distrust_total x m.records valid.records_rising (Has-from_contains m.records x has))
held-again m valid (AReceipt r) has =
    ap (λ (rs : List Receipt). record m { held = rs })
    (with_item-present receipt_cmp receipt_total r m.held valid.rising (Has-from_contains m.held r has))

all-again : (m : Meaning) → IsMeaning m → (entries : List Entry) → AllByRecursion (HoldsEntry m) entries → with_entries entries m ≡ m
all-again m valid [] has = refl
all-again m valid (entry ∷ entries) has = ap (with_entries entries) (held-again m valid entry has.0) ∙ all-again m valid entries has.1

-- What is held is still held if no less is.
still-holds : (m n : Meaning) → IsPartOf (state_of m) (state_of n) → (entry : Entry) → HoldsEntry m entry → HoldsEntry n entry
still-holds m n part (Record x) has = part.distrusts x has
still-holds m n part (AReceipt r) has = part.receipts r has

all-still : (m n : Meaning) → IsPartOf (state_of m) (state_of n) → (entries : List Entry) → AllByRecursion (HoldsEntry m) entries
    → AllByRecursion (HoldsEntry n) entries
all-still m n part [] has = tt
all-still m n part (entry ∷ entries) has = (still-holds m n part entry has.0, all-still m n part entries has.1)

-- What comes is held then.
now-holds : (m : Meaning) → IsMeaning m → (entry : Entry) → IsWellFormed entry → HoldsEntry (with_entry entry m) entry
now-holds m valid (Record x) form =
    Contains-from_has (with_item distrust_cmp x m.records) x
    (with_item-new IsDistrust distrust_cmp (λ a b p q. one_distrust a b) x m.records form valid.distrusts)
now-holds m valid (AReceipt r) form =
    Contains-from_has (with_item receipt_cmp r m.held) r (with_item-new IsReceipt receipt_cmp one_receipt r m.held form valid.receipts)

-- ---- the first lines of an answer

-- the first of no items
take-none : {A : Type 0} (n : ℕ) → take {A = A} n [] ≡ []
take-none zero = refl
take-none (suc n) = refl

-- the first of two lists
take-both : {A : Type 0} (n : ℕ) (xs ys : List A) → take n (xs ++ ys) ≡ take n xs ++ take (n - length xs) ys
take-both n [] ys =
    let same : n ≡ n - 0 = omega arith in
    ap (λ k. take k ys) same ∙ ap (λ front. front ++ take (n - 0) ys) (sym (take-none n))
take-both zero (x ∷ xs) ys =
    let none : 0 ≡ 0 - length (x ∷ xs) = omega arith in
    ap (λ k. take k ys) none
take-both (suc n) (x ∷ xs) ys =
    let less : suc n - length (x ∷ xs) ≡ n - length xs = omega arith in
    ap (λ rest. x ∷ rest) (take-both n xs ys) ∙ ap (λ k. x ∷ (take n xs ++ take k ys)) (sym less)

-- The entries of an answer's first lines are its first entries.
first-entries : (content : State) (n : ℕ) → entries_of (first_of n content) ≡ take n (entries_of content)
first-entries content n =
    let many = length-map content.records Record in
    (λ t. sym (take-map Record n content.records) t ++ sym (take-map AReceipt (n - length content.records) content.held) t)
    ∙ ap (λ k. take n (of_records content.records) ++ take (n - k) (of_receipts content.held)) (sym many)
    ∙ sym (take-both n (of_records content.records) (of_receipts content.held))

-- with all records
with-records : (xs : List Distrust) (m : Meaning) → with_entries (of_records xs) m ≡ record m { records = with_items distrust_cmp xs m.records }
with-records [] m = refl
with-records (x ∷ xs) m = with-records xs (with_entry (Record x) m)

-- with all receipts
with-receipts : (rs : List Receipt) (m : Meaning) → with_entries (of_receipts rs) m ≡ record m { held = with_items receipt_cmp rs m.held }
with-receipts [] m = refl
with-receipts (r ∷ rs) m = with-receipts rs (with_entry (AReceipt r) m)

-- With the entries of a content it is joined.
with-content : (m : Meaning) (content : State) → state_of (with_entries (entries_of content) m) ≡ joined (state_of m) content
with-content m content =
    ap state_of
    (fold-append (λ (before : Meaning) (entry : Entry). with_entry entry before) m (of_records content.records) (of_receipts content.held)
    ∙ ap (with_entries (of_receipts content.held)) (with-records content.records m)
    ∙ with-receipts content.held (record m { records = with_items distrust_cmp content.records m.records }))

-- So with its first lines.
first-joined : (content : State) (taken rest : List Entry) (m : Meaning) → entries_of content ≡ taken ++ rest
    → joined (state_of m) (first_of (length taken) content) ≡ state_of (with_entries taken m)
first-joined content taken rest m e =
    sym (with-content m (first_of (length taken) content))
    ∙ ap (λ (entries : List Entry). state_of (with_entries entries m))
    (first-entries content (length taken) ∙ ap (take (length taken)) e ∙ take-append_seam taken rest)

-- what an answer has is of its form
records-formed : (xs : List Distrust) → AllByRecursion IsDistrust xs → AreWellFormed (of_records xs)
records-formed [] h = tt
records-formed (x ∷ xs) h = (h.0, records-formed xs h.1)

receipts-formed : (rs : List Receipt) → AllByRecursion IsReceipt rs → AreWellFormed (of_receipts rs)
receipts-formed [] h = tt
receipts-formed (r ∷ rs) h = (h.0, receipts-formed rs h.1)

content-formed : (content : State) → IsContent content → AreWellFormed (entries_of content)
content-formed content is =
    all_append IsWellFormed (of_records content.records) (of_receipts content.held) (records-formed content.records is.records)
    (receipts-formed content.held is.receipts)

-- ---- one piece

-- The entries that were done and those that come: these were taken up to the piece c, and the later
-- pieces take the rest.
record IsTurn (back : List PulledPiece) (c : PulledPiece) (done entries : List Entry) : Type 0 where
  pub taken : List Entry
  pub rest : List Entry
  pub parts : done ++ entries ≡ taken ++ rest
  pub is : with_entries taken c.old ≡ c.new
  pub later : TakesInTurn back rest

-- the piece itself
here-turn : (back : List PulledPiece) (c : PulledPiece) (done entries : List Entry) → IsMeaning c.old → AllByRecursion (HoldsEntry c.old) done
    → TakesInTurn (c ∷ back) entries → IsTurn back c done entries
here-turn back c done [] valid has takes =
    record { taken = done; rest = []; parts = refl; is = all-again c.old valid done has ∙ sym takes.0; later = takes.1 }
here-turn back c done (entry ∷ entries) valid has (inl takes) =
    record { taken = done; rest = entry ∷ entries; parts = refl; is = all-again c.old valid done has ∙ sym takes.0; later = takes.1 }
here-turn back c done (entry ∷ entries) valid has (inr takes) = record {
  taken = done ++ entry ∷ [];
  rest = entries;
  parts = sym (append_assoc done (entry ∷ []) entries);
  is = fold-append (λ (before : Meaning) (e : Entry). with_entry e before) c.old done (entry ∷ [])
      ∙ ap (with_entry entry) (all-again c.old valid done has) ∙ sym takes.0;
  later = takes.1;
}

-- the piece after others
later-turn : (config : Configuration) (front back : List PulledPiece) (c : PulledPiece) (done entries : List Entry) (before : Meaning)
    → AllByRecursion (IsPieceOf config) (front ++ c ∷ back) → LosesNothing before (front ++ c ∷ back) → AreWellFormed entries
    → AllByRecursion (HoldsEntry before) done → TakesInTurn (front ++ c ∷ back) entries → IsTurn back c done entries
later-turn config [] back c done entries before each grows form has takes =
    here-turn back c done entries each.0.old (all-still before c.old grows.0 done has) takes
later-turn config (d ∷ front) back c done [] before each grows form has takes =
    later-turn config front back c done [] d.new each.1 grows.1 tt
    (subst (λ (m : Meaning). AllByRecursion (HoldsEntry m) done) (sym takes.0) (all-still before d.old grows.0 done has)) takes.1
later-turn config (d ∷ front) back c done (entry ∷ entries) before each grows form has (inl takes) =
    later-turn config front back c done (entry ∷ entries) d.new each.1 grows.1 form
    (subst (λ (m : Meaning). AllByRecursion (HoldsEntry m) done) (sym takes.0) (all-still before d.old grows.0 done has)) takes.1
later-turn config (d ∷ front) back c done (entry ∷ entries) before each grows form has (inr takes) =
    let then = with_entry entry d.old in
    let turn = later-turn config front back c (done ++ entry ∷ []) entries d.new each.1 grows.1 form.1
    (subst (λ (m : Meaning). AllByRecursion (HoldsEntry m) (done ++ entry ∷ [])) (sym takes.0)
    (all_append (HoldsEntry then) done (entry ∷ [])
    (all-still d.old then (below-one entry d.old).part done (all-still before d.old grows.0 done has))
    (now-holds d.old each.0.old entry form.0, tt))) takes.1 in
    record {
      taken = turn.taken;
      rest = turn.rest;
      parts = sym (append_assoc done (entry ∷ []) entries) ∙ turn.parts;
      is = turn.is;
      later = turn.later;
    }

-- ---- in a world

-- the configuration is unchanged
piece-config : (config : Configuration) (front back : List PulledPiece) (c : PulledPiece) → AllByRecursion (IsPieceOf config) (front ++ c ∷ back)
    → IsPieceOf config c
piece-config config [] back c each = each.0
piece-config config (d ∷ front) back c each = piece-config config front back c each.1

-- A replica that takes first lines of an answer within the limits joins them.
part-joins : (rules : Rules) (w : World) (i n j k count : ℕ) (content state : State) → i < rules.replicas → w.now i ≡ state
    → slice_get w.sent n ≡ Some (give_sent j k content) → is_within_limits (rules.limits i) (joined state (first_of count content)) ≡ true
    → happens rules w (Part i n count) ≡ with_state w i (joined state (first_of count content))
part-joins rules w i n j k count content state l here e room =
    let gain = first_of count content in
    ap (λ (b : Bool). apply rules.limits w (where_so b (takes_part i count (slice_get w.sent n)))) (replica-true rules i l)
    ∙ ap (λ (f : Option Message). apply rules.limits w (takes_part i count f)) e
    ∙ ap (λ (b : Bool). gained b w i (joined (w.now i) gain)) (ap (λ (s : State). is_within_limits (rules.limits i) (joined s gain)) here ∙ room)
    ∙ ap (λ (s : State). with_state w i (joined s gain)) here

-- A replica that takes a whole answer within the limits joins it.
whole-joins : (rules : Rules) (w : World) (i n j k : ℕ) (content state : State) → i < rules.replicas → w.now i ≡ state
    → slice_get w.sent n ≡ Some (give_sent j k content) → is_within_limits (rules.limits i) (joined state content) ≡ true
    → happens rules w (Absorb i n) ≡ with_state w i (joined state content)
whole-joins rules w i n j k content state l here e room =
    absorbed-is rules w i j n k content l e (ap (λ (s : State). is_within_limits (rules.limits i) (joined s content)) here ∙ room)
    ∙ ap (λ (s : State). with_state w i (joined s content)) here

-- what a replica can mean is within the limits
meaning-fits : (c : Configuration) (m : Meaning) → m.config ≡ c → IsMeaning m → is_within_limits (limits_of c) (state_of m) ≡ true
meaning-fits c m same valid = below-within c (state_of m) (state_of m) (below-itself (state_of m)) (meaning-holdable c m same valid)

-- the turn of a piece of an answer
turn-of : (config : Configuration) (bucket : ℕ) (g : PulledGive) (front back : List PulledPiece) (c : PulledPiece) → IsPulledAmid config bucket g
    → pieces_of g ≡ front ++ c ∷ back → IsTurn back c [] (entries_of g.give.content) × IsPieceOf config c
turn-of config bucket g front back c amid e =
    let each = subst (λ (came : List PulledPiece). AllByRecursion (IsPieceOf config) came) e amid.each in (
      later-turn config front back c [] (entries_of g.give.content) amid.before each (subst (LosesNothing amid.before) e amid.grows)
          (content-formed g.give.content amid.give.about.form.valid) tt
          (subst (λ (came : List PulledPiece). TakesInTurn came (entries_of g.give.content)) e amid.give.takes),
      piece-config config front back c each,
    )

-- A piece of an answer is the taking of a number of its first lines.
pub pieces-in-world : (config : Configuration) (rules : Rules) (bucket i answerer have place : ℕ) (w : World) (g : PulledGive)
    (front back : List PulledPiece) (c : PulledPiece) → i < rules.replicas → rules.limits i ≡ limits_of config
    → IsPulledAmid config bucket g → pieces_of g ≡ front ++ c ∷ back → w.now i ≡ state_of c.old
    → slice_get w.sent place ≡ Some (sent_give answerer have g.give)
    → (count : ℕ) × (happens rules w (Part i place count) ≡ with_state w i (state_of c.new))
pieces-in-world config rules bucket i answerer have place w g front back c l own amid e here sent =
    let found = turn-of config bucket g front back c amid e in
    let turn = found.0 in
    let content = g.give.content in
    let same : joined (state_of c.old) (first_of (length turn.taken) content) ≡ state_of c.new =
    first-joined content turn.taken turn.rest c.old turn.parts ∙ ap state_of turn.is in (
      length turn.taken,
      part-joins rules w i place answerer have (length turn.taken) content (state_of c.old) l here sent
          (ap (is_within_limits (rules.limits i)) same ∙ ap (λ (limits : Limits). is_within_limits limits (state_of c.new)) own
          ∙ meaning-fits config c.new (ap (λ (m : Meaning). m.config) (sym turn.is) ∙ same-config turn.taken c.old ∙ found.1.own) found.1.new)
          ∙ ap (with_state w i) same,
    )

-- no pieces take nothing
none-left : (entries : List Entry) → TakesInTurn [] entries → entries ≡ []
none-left [] takes = refl
none-left (entry ∷ entries) takes = absurd takes

-- The last piece of an answer is the taking of it.
pub last-in-world : (config : Configuration) (rules : Rules) (bucket i answerer have place : ℕ) (w : World) (g : PulledGive)
    → i < rules.replicas → rules.limits i ≡ limits_of config → IsPulledAmid config bucket g
    → w.now i ≡ state_of g.last.old → slice_get w.sent place ≡ Some (sent_give answerer have g.give)
    → (is_within_limits (rules.limits i) (joined (w.now i) g.give.content) ≡ true)
    × (happens rules w (Absorb i place) ≡ with_state w i (state_of g.last.new))
last-in-world config rules bucket i answerer have place w g l own amid here sent =
    let found = turn-of config bucket g g.before [] g.last amid refl in
    let turn = found.0 in
    let all : entries_of g.give.content ≡ turn.taken =
    turn.parts ∙ ap (λ (rest : List Entry). turn.taken ++ rest) (none-left turn.rest turn.later) ∙ append-nil turn.taken in
    let same : joined (state_of g.last.old) g.give.content ≡ state_of g.last.new =
    sym (with-content g.last.old g.give.content) ∙ ap (λ (entries : List Entry). state_of (with_entries entries g.last.old)) all
    ∙ ap state_of turn.is in
    let room = ap (is_within_limits (rules.limits i)) same ∙ ap (λ (limits : Limits). is_within_limits limits (state_of g.last.new)) own
    ∙ meaning-fits config g.last.new
    (ap (λ (m : Meaning). m.config) (sym turn.is) ∙ same-config turn.taken g.last.old ∙ found.1.own) found.1.new in (
      ap (λ (state : State). is_within_limits (rules.limits i) (joined state g.give.content)) here ∙ room,
      whole-joins rules w i place answerer have g.give.content (state_of g.last.old) l here sent room ∙ ap (with_state w i) same,
    )
