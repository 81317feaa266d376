-- A session over sums between two machines, while what is held changes at both sides, too.
use Rattle.std.proofs.Common.{◌≡◌, ◌∙◌, ℕ, zero, suc, ◌+◌, ◌<◌, inl, inr, Bool, true, List, [], ◌∷◌, ◌++◌, length, get_or, not}
use Rattle.std.proofs.Common.{refl, sym, ap, subst, arith, append_assoc, append-nil, eq-eqb}
use Rattle.std.specs.Prelude.{Contains, Option, Some, None, flat_map}
use Rattle.std.specs.List.{AllByRecursion}
use Rattle.std.proofs.lemmas.Bool.{and_from, cases_Bool}
use Rattle.std.proofs.lemmas.Grind.{flat_map-append}
use Rattle.std.proofs.lemmas.List.{length-map}
use Rattle.std.proofs.lemmas.List.Elements.{Contains-append_left, Contains-append_right}
use Rattle.std.proofs.lemmas.List.Folds.{flat_map-map}
use Rattle.fed_config.specs.Configuration.{Configuration, config_id_of}
use Rattle.receipt_core.specs.Acceptance.{IsMeaning, Meaning}
use Rattle.receipt_core.specs.Receipt.{Receipt, IsDistrust, IsReceipt, distrust_cmp, receipt_cmp, receipt_id_of}
use Rattle.receipt_core.specs.Rising.{with_item}
use Rattle.receipt_core.specs.declared.distrust.Distrust.{Distrust}
use Rattle.receipt_core.proofs.RisingFacts.{Contains-from_has, Has, Has-from_contains, with_item-keeps, with_item-new}
use Rattle.replica_core.specs.Absorbing.{entries_of, of_receipts, of_records, with_entry}
use Rattle.replica_core.specs.Convergence.{HasAll, IsPartOf}
use Rattle.replica_core.specs.Session.{GiveMessage, HaveMessage, give_of, have_of, state_of}
use Rattle.replica_core.specs.State.{State, bucket_of_id, ids_named, is_named, is_of_bucket, receipts_lacking}
use Rattle.replica_core.specs.declared.entry.Entry.{Entry}
use Rattle.replica_core.specs.declared.entry.Entry.TheVariants.{Record, Receipt as AReceipt}
use Rattle.replica_core.proofs.ContainsFacts.{contains-cases, contains-none, each-from, filter-to, map-to}
use Rattle.replica_core.proofs.EventFacts.{part-refl, part-trans}
use Rattle.replica_core.proofs.ExchangeFacts.{lacking, named-held}
use Rattle.replica_core.proofs.RisingListFacts.{all_append, all_back, all_front}
use Rattle.replica_core.proofs.BucketFacts.{bucket-small}
use Rattle.replica_texts.specs.Gives.{IsGive}
use Rattle.replica_texts.specs.Haves.{IsHaveOf}
use Rattle.replica_texts.specs.Messages.{give_text}
use Rattle.replica_sync.specs.Plans.{answered_of, bucket_at}
use Rattle.replica_sync.specs.PulledPieces.{ArePulledGives, PulledGive, PulledPiece, TakesInTurn, bytes_pulled, gives_of, haves_pulled, pieces_of}
use Rattle.replica_sync.specs.PullSessions.{HasPulledAll, IsOverPulling, due_have, fault_of_pulling, kept_answer}
use Rattle.replica_sync.specs.ServedPieces.{Came, HaveAndHeld, IsOwnHave, bytes_came}
use Rattle.replica_sync.specs.declared.piece_pulling.Pulling.{Pulling}
use Rattle.replica_sync.proofs.OwnMessageFacts.{answer-given, askable-have}
use Rattle.replica_sync.proofs.PlanLawFacts.{gives_each, one_list}
use Rattle.replica_sync.proofs.ServeLawFacts.{AnsweredEach, haves_in}
use Rattle.replica_sync.proofs.SessionFacts.{give_texts, same-haves}
use Rattle.bucket_sums.specs.Changing.{HoldsNoLess, IsOwnPiece, OnlyGrows}
use Rattle.bucket_sums.specs.Quiet.{AnswersQuestion}
use Rattle.bucket_sums.specs.QuietPulls.{AsksMarked}
use Rattle.bucket_sums.specs.RecordsOnce.{shown_once}
use Rattle.bucket_sums.specs.Sessions.{buckets_asked}
use Rattle.bucket_sums.specs.Sums.{HasDistinctSums, marks_between}
use Rattle.bucket_sums.proofs.BothSidesFacts.{AreMarksOfBoth, compared_marks}
use Rattle.bucket_sums.proofs.CourseFacts.{place_of}
use Rattle.bucket_sums.proofs.LawFacts.{same_ids, same_records}
use Rattle.bucket_sums.proofs.QuietLawFacts.{asked_below, came_all, item_has}
use Rattle.bucket_sums.proofs.SessionFacts.{asked-has, exact-receipts, exact-records, held-of-id, id-of-held, some-asked}
use Rattle.bucket_sums.proofs.ShownFacts.{IsFirstOf, IsShownAs, Shows, shown_bytes, shown_means, shows}

-- ---- entries

abbrev HoldsEntry : State → Entry → Type 0
HoldsEntry state (Record x) = Contains state.records x
HoldsEntry state (AReceipt r) = Contains state.held r

-- it is of its form
abbrev IsFormedEntry : Entry → Type 0
IsFormedEntry (Record x) = IsDistrust x
IsFormedEntry (AReceipt r) = IsReceipt r

-- What is held is held if no less is.
still_held : (s t : State) → IsPartOf s t → (entry : Entry) → HoldsEntry s entry → HoldsEntry t entry
still_held s t part (Record x) has = part.distrusts x has
still_held s t part (AReceipt r) has = part.receipts r has

-- What comes is held then.
held_now : (m : Meaning) → IsMeaning m → (entry : Entry) → IsFormedEntry entry → HoldsEntry (state_of (with_entry entry m)) entry
held_now m valid (Record x) form =
    Contains-from_has (with_item distrust_cmp x m.records) x (with_item-new IsDistrust distrust_cmp exact-records x m.records form valid.distrusts)
held_now m valid (AReceipt r) form =
    Contains-from_has (with_item receipt_cmp r m.held) r (with_item-new IsReceipt receipt_cmp exact-receipts r m.held form valid.receipts)

-- Nothing is lost by it.
entry_grows : (m : Meaning) (entry : Entry) → IsPartOf (state_of m) (state_of (with_entry entry m))
entry_grows m (Record x) = record {
  receipts = λ r c. c;
  distrusts = λ y c. Contains-from_has (with_item distrust_cmp x m.records) y
      (with_item-keeps distrust_cmp x m.records y (Has-from_contains m.records y c));
}
entry_grows m (AReceipt r) = record {
  receipts = λ s c. Contains-from_has (with_item receipt_cmp r m.held) s
      (with_item-keeps receipt_cmp r m.held s (Has-from_contains m.held s c));
  distrusts = λ y c. c;
}

-- ---- pieces

-- Nothing is lost by the piece.
abbrev pub Grows : PulledPiece → Type 0
Grows c = IsPartOf (state_of c.old) (state_of c.new)

same_grows : (c : PulledPiece) → c.new ≡ c.old → Grows c
same_grows c e = subst (λ (m : Meaning). IsPartOf (state_of c.old) (state_of m)) (sym e) (part-refl (state_of c.old))

-- Nothing is lost by pieces that take entries.
pub turns_grow : (came : List PulledPiece) (entries : List Entry) → TakesInTurn came entries → AllByRecursion Grows came
turns_grow [] [] takes = tt
turns_grow [] (entry ∷ entries) takes = absurd takes
turns_grow (c ∷ came) [] takes = (same_grows c takes.0, turns_grow came [] takes.1)
turns_grow (c ∷ came) (entry ∷ entries) (inl takes) = (same_grows c takes.0, turns_grow came (entry ∷ entries) takes.1)
turns_grow (c ∷ came) (entry ∷ entries) (inr takes) = (
  subst (λ (m : Meaning). IsPartOf (state_of c.old) (state_of m)) (sym takes.0) (entry_grows c.old entry),
  turns_grow came entries takes.1,
)

pub gives_grow : (plan : Option (List ℕ)) (config : Configuration) (place : ℕ) (gives : List PulledGive) → ArePulledGives plan config place gives
    → AllByRecursion Grows (flat_map pieces_of gives)
gives_grow plan config place [] each = tt
gives_grow plan config place (g ∷ gives) each =
    all_append Grows (pieces_of g) (flat_map pieces_of gives) (turns_grow (pieces_of g) (entries_of g.give.content) each.0.takes)
    (gives_grow plan config (place + 1) gives each.1)

-- What is held before pieces is held after them.
pub grown : (before : Meaning) (came : List PulledPiece) (after : Meaning) → OnlyGrows before came after → AllByRecursion Grows came
    → IsPartOf (state_of before) (state_of after)
grown before [] after only all = only
grown before (c ∷ came) after only all =
    part-trans (state_of before) (state_of c.old) (state_of after) only.0
    (part-trans (state_of c.old) (state_of c.new) (state_of after) all.0 (grown c.new came after only.1 all.1))

-- From a piece on it only grows, too.
pub grows_after : (before : Meaning) (front : List PulledPiece) (c : PulledPiece) (rest : List PulledPiece) (after : Meaning)
    → OnlyGrows before ((front ++ c ∷ []) ++ rest) after → OnlyGrows c.new rest after
grows_after before [] c rest after only = only.1
grows_after before (d ∷ front) c rest after only = grows_after d.new front c rest after only.1

-- What is taken by one of the pieces is held in the end.
entry_taken : (came rest : List PulledPiece) (entries : List Entry) (before after : Meaning) (entry : Entry) → TakesInTurn came entries
    → OnlyGrows before (came ++ rest) after → AllByRecursion Grows (came ++ rest) → AllByRecursion (λ (c : PulledPiece). IsMeaning c.old) came
    → IsFormedEntry entry → Contains entries entry → HoldsEntry (state_of after) entry
entry_taken [] rest [] before after entry takes only all old form has = absurd (contains-none entry has)
entry_taken [] rest (e ∷ entries) before after entry takes only all old form has = absurd takes
entry_taken (c ∷ came) rest [] before after entry takes only all old form has = absurd (contains-none entry has)
entry_taken (c ∷ came) rest (e ∷ entries) before after entry (inl takes) only all old form has =
    entry_taken came rest (e ∷ entries) c.new after entry takes.1 only.1 all.1 old.1 form has
entry_taken (c ∷ came) rest (e ∷ entries) before after entry (inr takes) only all old form has = elim (contains-cases e entries entry has) [
  | inl same ↦
      still_held (state_of (with_entry entry c.old)) (state_of after)
      (subst (λ (m : Meaning). IsPartOf (state_of m) (state_of after)) (takes.0 ∙ ap (λ (x : Entry). with_entry x c.old) (sym same))
      (grown c.new (came ++ rest) after only.1 all.1)) entry (held_now c.old old.0 entry form)
  | inr later ↦ entry_taken came rest entries c.new after entry takes.1 only.1 all.1 old.1 form later
]

-- ---- whole answers

-- What an answer is made from: a replica of a configuration with this digest holds these receipts,
-- and more may be.
pub record HoldsReceipts (config : Configuration) (least : State) (m : Meaning) : Type 0 where
  pub own : config_id_of m.config ≡ config_id_of config
  pub means : IsMeaning m
  pub receipts : (r : Receipt) → Contains least.held r → Contains m.held r

abbrev IsFrom : Configuration → State → HaveAndHeld → Type 0
IsFrom config least a = HoldsReceipts config least a.held

abbrev MeantOld : PulledPiece → Type 0
MeantOld c = IsMeaning c.old

-- The answers of the pieces are those to these haves, and each is made from no less than that.
pub record AreGiven (plan : Option (List ℕ)) (config d : Configuration) (least : State) (after : Meaning) (place : ℕ) (before : Meaning)
    (gives : List PulledGive) (rest : List PulledPiece) (asked : List HaveAndHeld) : Type 0 where
  pub only : OnlyGrows before (flat_map pieces_of gives ++ rest) after
  pub all : AllByRecursion Grows (flat_map pieces_of gives ++ rest)
  pub old : AllByRecursion MeantOld (flat_map pieces_of gives)
  pub each : ArePulledGives plan config place gives
  pub haves : haves_pulled plan before place gives ≡ haves_in asked
  pub are : gives_of gives ≡ gives_each asked
  pub from : AllByRecursion (IsFrom d least) asked

module _ (plan : Option (List ℕ)) (config d : Configuration) (least : State) (after : Meaning) where
  module _ (place : ℕ) (before : Meaning) (g : PulledGive) (gives : List PulledGive) (rest : List PulledPiece) (a : HaveAndHeld)
      (asked : List HaveAndHeld) (h : AreGiven plan config d least after place before (g ∷ gives) rest (a ∷ asked)) where
    abbrev bucket : ℕ
    bucket = bucket_at plan place

    have_is : have_of before bucket ≡ a.have
    have_is = let e = h.haves in cc

    give_is : g.give ≡ give_of a.held a.have
    give_is = let e = h.are in cc

    only_here : OnlyGrows before (pieces_of g ++ (flat_map pieces_of gives ++ rest)) after
    only_here = subst (λ (l : List PulledPiece). OnlyGrows before l after) (append_assoc (pieces_of g) (flat_map pieces_of gives) rest) h.only

    all_here : AllByRecursion Grows (pieces_of g ++ (flat_map pieces_of gives ++ rest))
    all_here = subst (AllByRecursion Grows) (append_assoc (pieces_of g) (flat_map pieces_of gives) rest) h.all

    -- what the first answer has is held in the end
    given_held : (entry : Entry) → IsFormedEntry entry → Contains (entries_of g.give.content) entry → HoldsEntry (state_of after) entry
    given_held entry form has =
        entry_taken (pieces_of g) (flat_map pieces_of gives ++ rest) (entries_of g.give.content) before after entry h.each.0.takes only_here all_here
        (all_front MeantOld (pieces_of g) (flat_map pieces_of gives) h.old) form has

    -- a receipt of the bucket, or one with its id
    first_brought : (r : Receipt) → Contains least.held r → bucket_of_id r ≡ bucket
        → (s : Receipt) × Contains after.held s × (receipt_id_of s ≡ receipt_id_of r)
    first_brought r c here =
        let ids = ids_named (state_of before) bucket in
        elim (cases_Bool (is_named ids r)) [
          | inl named ↦
              let source = named-held (state_of before) bucket r named in
              let whole = grown before (flat_map pieces_of (g ∷ gives) ++ rest) after h.only h.all in
              (source.0, whole.receipts source.0 source.1, source.2)
          | inr unnamed ↦
              let theirs = h.from.0.receipts r c in
              let form : IsReceipt r = each-from IsReceipt a.held.held h.from.0.means.receipts r theirs in
              let sent : Contains (receipts_lacking (state_of a.held) bucket ids) r =
              filter-to (lacking (state_of before) bucket) a.held.held r theirs
              (and_from (is_of_bucket bucket r) (not (is_named ids r)) (eq-eqb (bucket_of_id r) bucket here) (ap not unnamed)) in
              let content : receipts_lacking (state_of a.held) bucket ids ≡ g.give.content.held =
              ap (λ (q : HaveMessage). (give_of a.held q).content.held) have_is ∙ ap (λ (m : GiveMessage). m.content.held) (sym give_is) in
              let there : Contains (entries_of g.give.content) (AReceipt r) =
              Contains-append_right (of_records g.give.content.records) (of_receipts g.give.content.held) (AReceipt r)
              (map-to AReceipt g.give.content.held r (subst (λ (rs : List Receipt). Contains rs r) content sent)) in
              (r, given_held (AReceipt r) form there, refl)
        ]

    -- a record of what the first answer is made from
    first_records : (x : Distrust) → Contains a.held.records x → Contains after.records x
    first_records x c =
        let form : IsDistrust x = each-from IsDistrust a.held.records h.from.0.means.distrusts x c in
        let content : a.held.records ≡ g.give.content.records = ap (λ (m : GiveMessage). m.content.records) (sym give_is) in
        given_held (Record x) form
        (Contains-append_left (of_records g.give.content.records) (of_receipts g.give.content.held) (Record x)
        (map-to Record g.give.content.records x (subst (λ (xs : List Distrust). Contains xs x) content c)))

    -- the answers after it
    others : AreGiven plan config d least after (place + 1) g.last.new gives rest asked
    others = record {
      only = grows_after before g.before g.last (flat_map pieces_of gives ++ rest) after only_here;
      all = all_back Grows (pieces_of g) (flat_map pieces_of gives ++ rest) all_here;
      old = all_back MeantOld (pieces_of g) (flat_map pieces_of gives) h.old;
      each = h.each.1;
      haves = let e = h.haves in cc;
      are = let e = h.are in cc;
      from = h.from.1;
    }

  -- After the answers, each receipt of a bucket that was asked about is held, or one with its id.
  pub receipt_brought : (gives : List PulledGive) (place : ℕ) (before : Meaning) (rest : List PulledPiece) (asked : List HaveAndHeld) (n : ℕ) (r : Receipt)
      → AreGiven plan config d least after place before gives rest asked → n < length gives → Contains least.held r
      → bucket_of_id r ≡ bucket_at plan (place + n)
      → (s : Receipt) × Contains after.held s × (receipt_id_of s ≡ receipt_id_of r)
  receipt_brought [] place before rest asked n r h within c e = absurd (omega (arith, within))
  receipt_brought (g ∷ gives) place before rest [] n r h within c e = absurd (let are = h.are in cc)
  receipt_brought (g ∷ gives) place before rest (a ∷ asked) zero r h within c e =
      let same : place + 0 ≡ place = omega arith in
      first_brought place before g gives rest a asked h r c (e ∙ ap (bucket_at plan) same)
  receipt_brought (g ∷ gives) place before rest (a ∷ asked) (suc n) r h within c e =
      let same : place + suc n ≡ (place + 1) + n = omega arith in
      receipt_brought gives (place + 1) g.last.new rest asked n r (others place before g gives rest a asked h) (omega (arith, within)) c
      (e ∙ ap (bucket_at plan) same)

-- ---- haves and answers of both sides

-- The haves of the asker are of each configuration with this digest.
haves_form : (plan : Option (List ℕ)) (config d : Configuration) (place : ℕ) (before : Meaning) (gives : List PulledGive)
    → config_id_of config ≡ config_id_of d → before.config ≡ config → IsMeaning before
    → AllByRecursion (IsOwnPiece config) (flat_map pieces_of gives) → ((n : ℕ) → n < place + length gives → bucket_at plan n < 256)
    → AllByRecursion (IsHaveOf d) (haves_pulled plan before place gives)
haves_form plan config d place before [] same own valid each below = tt
haves_form plan config d place before (g ∷ gives) same own valid each below =
    let first = all_front (IsOwnPiece config) (pieces_of g) (flat_map pieces_of gives) each in
    let last = (all_back (IsOwnPiece config) g.before (g.last ∷ []) first).0 in (
      record {
        askable = askable-have before (bucket_at plan place) valid (below place (omega arith));
        own = ap (λ (c : Configuration). config_id_of c) own ∙ same;
      },
      haves_form plan config d (place + 1) g.last.new gives same last.own last.new
          (all_back (IsOwnPiece config) (pieces_of g) (flat_map pieces_of gives) each) (λ n within. below n (omega (arith, within))),
    )

-- So are those that the other side took.
taken_form : (d : Configuration) (least : State) (asked : List HaveAndHeld) → AllByRecursion (IsFrom d least) asked → AllByRecursion IsOwnHave asked
    → AllByRecursion (IsHaveOf d) (haves_in asked)
taken_form d least [] from own = tt
taken_form d least (a ∷ asked) from own =
    (record { askable = own.0.askable; own = own.0.own ∙ from.0.own }, taken_form d least asked from.1 own.1)

-- What was held before each piece is what a replica can hold.
old_of : (config : Configuration) (came : List PulledPiece) → AllByRecursion (IsOwnPiece config) came → AllByRecursion MeantOld came
old_of config [] each = tt
old_of config (c ∷ came) each = (each.0.old, old_of config came each.1)

-- What it made are answers.
made_form : (d : Configuration) (least : State) (asked : List HaveAndHeld) → AllByRecursion (IsFrom d least) asked → AllByRecursion IsOwnHave asked
    → AllByRecursion IsGive (gives_each asked)
made_form d least [] from own = tt
made_form d least (a ∷ asked) from own =
    (answer-given a.held a.have from.0.means own.0.askable, made_form d least asked from.1 own.1)

pulled_form : (plan : Option (List ℕ)) (config : Configuration) (place : ℕ) (gives : List PulledGive) → ArePulledGives plan config place gives
    → AllByRecursion IsGive (gives_of gives)
pulled_form plan config place [] each = tt
pulled_form plan config place (g ∷ gives) each = (each.0.about.form, pulled_form plan config (place + 1) gives each.1)

-- Their text is what came.
pulled_text : (plan : Option (List ℕ)) (config : Configuration) (place : ℕ) (gives : List PulledGive) → ArePulledGives plan config place gives
    → bytes_pulled (flat_map pieces_of gives) ≡ give_texts (gives_of gives)
pulled_text plan config place [] each = refl
pulled_text plan config place (g ∷ gives) each =
    flat_map-append (λ (c : PulledPiece). c.bytes) (pieces_of g) (flat_map pieces_of gives)
    ∙ ap (λ (l : List ℕ). l ++ bytes_pulled (flat_map pieces_of gives)) each.0.text
    ∙ ap (λ (l : List ℕ). give_text g.give ++ l) (pulled_text plan config (place + 1) gives each.1)

-- There is one have for each answer.
length_pulled : (plan : Option (List ℕ)) (place : ℕ) (before : Meaning) (gives : List PulledGive)
    → length (haves_pulled plan before place gives) ≡ length gives
length_pulled plan place before [] = refl
length_pulled plan place before (g ∷ gives) = let later = length_pulled plan (place + 1) g.last.new gives in omega (arith, later)

-- ---- the whole session

-- What is held when a piece comes, with the records or without, is what its answer may be made from.
shown_from : (config : Configuration) (least : Meaning) (later : List Came) → AllByRecursion (HoldsNoLess config least) later
    → AllByRecursion (IsShownAs (HoldsReceipts config (state_of least))) later
shown_from config least [] no_less = tt
shown_from config least (c ∷ later) no_less = (
  λ records. record {
    own = no_less.0.own;
    means = shown_means records c.held no_less.0.means;
    receipts = no_less.0.grown.receipts;
  },
  shown_from config least later no_less.1,
)

-- what of the records is held then
abbrev HasAllRecords : State → Meaning → Type 0
HasAllRecords least m = (x : Distrust) → Contains least.records x → Contains m.records x

records_held : (config : Configuration) (least : Meaning) (later : List Came) → AllByRecursion (HoldsNoLess config least) later
    → AllByRecursion (λ (c : Came). HasAllRecords (state_of least) c.held) later
records_held config least [] no_less = tt
records_held config least (c ∷ later) no_less = (no_less.0.grown.distrusts, records_held config least later no_less.1)

-- The first have of some is made from all records.
first_of_some : (plan : Option (List ℕ)) (config d : Configuration) (least : State) (after : Meaning) (place : ℕ) (before : Meaning)
    (gives : List PulledGive) (rest : List PulledPiece) (asked : List HaveAndHeld) → AreGiven plan config d least after place before gives rest asked
    → 0 < length gives → IsFirstOf (HasAllRecords least) asked → HasAllRecords least after
first_of_some plan config d least after place before [] rest asked h some first = absurd (omega (arith, some))
first_of_some plan config d least after place before (g ∷ gives) rest [] h some first = absurd (let are = h.are in cc)
first_of_some plan config d least after place before (g ∷ gives) rest (a ∷ asked) h some first =
    λ x c. first_records plan config d least after place before g gives rest a asked h x (first x c)

module _ (pulling : Pulling) (m held : Meaning) (config : Configuration) (came : List PulledPiece) (asked later : List Came)
    (written said replied left : List ℕ) (differ : Bool) (same : config_id_of m.config ≡ config_id_of config)
    (marked : AsksMarked pulling m came written) (question : AnswersQuestion config asked said differ)
    (one : AreMarksOfBoth marked.marks differ m question.held (bytes_came later) marked.after (bytes_pulled marked.later ++ left) replied)
    (sums : HasDistinctSums (state_of m) (state_of question.held))
    (only : OnlyGrows m came held) (each : AllByRecursion (IsOwnPiece m.config) came)
    (whole : HasPulledAll (Some (buckets_asked marked.marks)) pulling.lines marked.then marked.later marked.after)
    (no_less : AllByRecursion (HoldsNoLess config question.held) later)
    (answered : AnsweredEach (shown_once differ [] later) replied) where
  abbrev plan : Option (List ℕ)
  plan = Some (buckets_asked marked.marks)

  abbrev least : State
  least = state_of question.held

  abbrev asked_later : List PulledPiece
  asked_later = flat_map pieces_of whole.gives ++ whole.later

  order : came ≡ (marked.was.before ++ marked.was.last ∷ []) ++ asked_later
  order = marked.order ∙ ap (λ (l : List PulledPiece). l ++ marked.later) marked.was.order
      ∙ ap (λ (l : List PulledPiece). (marked.was.before ++ marked.was.last ∷ []) ++ l) whole.whole.order

  marks_are : marked.marks ≡ marks_between (state_of m) least
  marks_are = one.are

  many : length marked.marks ≡ 257
  many = marked.all

  -- nothing is lost by any of the pieces
  later_grow : AllByRecursion Grows asked_later
  later_grow =
      all_append Grows (flat_map pieces_of whole.gives) whole.later (gives_grow plan marked.then.config 0 whole.gives whole.whole.each)
      (turns_grow whole.later [] whole.takes)

  all_grow : AllByRecursion Grows came
  all_grow =
      subst (AllByRecursion Grows) (sym (marked.order ∙ ap (λ (l : List PulledPiece). marked.asked ++ l) whole.whole.order))
      (all_append Grows marked.asked asked_later (turns_grow marked.asked [] marked.quiet) later_grow)

  -- what was held at the beginning is held
  own_held : IsPartOf (state_of m) (state_of held)
  own_held = grown m came held only all_grow

  pieces : AllByRecursion (IsOwnPiece m.config) ((marked.was.before ++ marked.was.last ∷ []) ++ asked_later)
  pieces = subst (AllByRecursion (IsOwnPiece m.config)) order each

  last_piece : IsOwnPiece m.config marked.was.last
  last_piece =
      (all_back (IsOwnPiece m.config) marked.was.before (marked.was.last ∷ [])
      (all_front (IsOwnPiece m.config) (marked.was.before ++ marked.was.last ∷ []) asked_later pieces)).0

  then_means : IsMeaning marked.then
  then_means = subst IsMeaning marked.was.was last_piece.new

  then_only : OnlyGrows marked.then asked_later held
  then_only =
      subst (λ (t : Meaning). OnlyGrows t asked_later held) marked.was.was
      (grows_after m marked.was.before marked.was.last asked_later held (subst (λ (l : List PulledPiece). OnlyGrows m l held) order only))

  given_pieces : AllByRecursion (IsOwnPiece m.config) (flat_map pieces_of whole.gives)
  given_pieces =
      all_front (IsOwnPiece m.config) (flat_map pieces_of whole.gives) whole.later
      (all_back (IsOwnPiece m.config) (marked.was.before ++ marked.was.last ∷ []) asked_later pieces)

  from_all : Shows (HoldsReceipts config least) (HasAllRecords least) differ answered.asked
  from_all =
      shows (HoldsReceipts config least) (HasAllRecords least) differ later answered.asked (shown_from config question.held later no_less)
      (records_held config question.held later no_less) answered.lines

  -- the haves of both sides are the same
  haves_are : haves_pulled plan marked.then 0 whole.gives ≡ haves_in answered.asked
  haves_are =
      let full = whole.all in
      same-haves config (haves_pulled plan marked.then 0 whole.gives) (haves_in answered.asked)
      (haves_form plan m.config config 0 marked.then whole.gives same marked.own then_means given_pieces
      (λ n within. item_has (λ b. b < 256) (buckets_asked marked.marks) n (asked_below marked.marks many) (omega (arith, within, full))))
      (taken_form config least answered.asked from_all.each answered.own)
      (sym whole.asked ∙ sym one.asked ∙ sym (shown_bytes differ [] later) ∙ answered.text)

  -- and so are the answers
  gives_are : gives_of whole.gives ≡ gives_each answered.asked
  gives_are =
      let asked_count = length_pulled plan 0 marked.then whole.gives in
      let taken = ap length haves_are in
      let number = length-map answered.asked (λ (a : HaveAndHeld). a.have) in
      let answers = length-map answered.asked (λ (a : HaveAndHeld). give_of a.held a.have) in
      let came_count = length-map whole.gives (λ (g : PulledGive). g.give) in
      let bytes : bytes_pulled marked.later ≡ give_texts (gives_of whole.gives) =
      ap bytes_pulled whole.whole.order ∙ flat_map-append (λ (c : PulledPiece). c.bytes) (flat_map pieces_of whole.gives) whole.later
      ∙ ap (λ (l : List ℕ). bytes_pulled (flat_map pieces_of whole.gives) ++ l) whole.none
      ∙ append-nil (bytes_pulled (flat_map pieces_of whole.gives))
      ∙ pulled_text plan marked.then.config 0 whole.gives whole.whole.each in
      one_list (gives_of whole.gives) (gives_each answered.asked) left []
      (pulled_form plan marked.then.config 0 whole.gives whole.whole.each) (made_form config least answered.asked from_all.each answered.own)
      (omega (arith, asked_count, taken, number, answers, came_count))
      (ap (λ (l : List ℕ). l ++ left) (sym bytes) ∙ one.replied ∙ answered.said
      ∙ sym (flat_map-map give_text (λ (a : HaveAndHeld). give_of a.held a.have) answered.asked)
      ∙ sym (append-nil (give_texts (gives_each answered.asked))))

  given : AreGiven plan marked.then.config config least held 0 marked.then whole.gives whole.later answered.asked
  given = record {
    only = then_only;
    all = later_grow;
    old = old_of m.config (flat_map pieces_of whole.gives) given_pieces;
    each = whole.whole.each;
    haves = haves_are;
    are = gives_are;
    from = from_all.each;
  }

  -- The asker holds each receipt that the other held, or one with the same id.
  receipt_there : (r : Receipt) → Contains least.held r → (s : Receipt) × Contains held.held s × (receipt_id_of s ≡ receipt_id_of r)
  receipt_there r c =
      let b = bucket_of_id r in
      let small = bucket-small r in
      let full = whole.all in
      let count = many in
      elim (cases_Bool (get_or marked.marks (suc b) true)) [
        | inl set ↦
            let found = place_of (buckets_asked marked.marks) b (asked-has marked.marks b (omega (arith, small, count)) set) in
            let within = found.1 in
            let start : found.0 ≡ 0 + found.0 = omega arith in
            receipt_brought plan marked.then.config config least held whole.gives 0 marked.then whole.later answered.asked found.0 r given
            (omega (arith, within, full)) c (sym found.2 ∙ ap (bucket_at plan) start)
        | inr unset ↦
            let at : b + 1 ≡ suc b = omega arith in
            let ids = same_ids (state_of m) least b (omega (arith, small)) sums
            (ap (λ n. get_or (marks_between (state_of m) least) n true) at ∙ ap (λ ms. get_or ms (suc b) true) (sym marks_are) ∙ unset) in
            let own = held-of-id (state_of m) b r
            (subst (λ l. Has l (receipt_id_of r)) (sym ids) (id-of-held least b r (Has-from_contains least.held r c) refl)) in
            (own.it, own_held.receipts own.it (Contains-from_has m.held own.it own.held), own.id)
      ]

  record_there : (x : Distrust) → Contains least.records x → Contains held.records x
  record_there x c =
      let full = whole.all in
      let count = many in
      elim (cases_Bool (get_or marked.marks 0 true)) [
        | inl set ↦
            let some = some-asked marked.marks (omega (arith, count)) set in
            first_of_some plan marked.then.config config least held 0 marked.then whole.gives whole.later answered.asked given
            (omega (arith, some, full))
            (from_all.first (one.records ∙ ap (λ ms. get_or ms 0 true) (sym marks_are) ∙ set)) x c
        | inr unset ↦
            own_held.distrusts x
            (subst (λ xs. Contains xs x)
            (sym (same_records (state_of m) least sums (ap (λ ms. get_or ms 0 true) (sym marks_are) ∙ unset))) c)
      ]

  pub both_brought : (b : ℕ) → HasAll b least (state_of held)
  both_brought b = record { receipts = λ r c e. receipt_there r c; distrusts = record_there }

pub session_brings : (pulling : Pulling) (m held : Meaning) (config : Configuration) (came : List PulledPiece) (asked later : List Came)
    (written said replied left : List ℕ) (differ : Bool) (bucket : ℕ) → config_id_of m.config ≡ config_id_of config
    → (marked : AsksMarked pulling m came written) → OnlyGrows m came held → AllByRecursion (IsOwnPiece m.config) came
    → fault_of_pulling pulling ≡ None → IsOverPulling pulling → due_have pulling ≡ []
    → (question : AnswersQuestion config asked said differ) → AllByRecursion (HoldsNoLess config question.held) later
    → HasDistinctSums (state_of m) (state_of question.held) → AnsweredEach (shown_once differ [] later) replied
    → bytes_came (asked ++ later) ≡ written → bytes_pulled came ++ left ≡ said ++ replied
    → HasAll bucket (state_of question.held) (state_of held)
session_brings pulling m held config came asked later written said replied left differ bucket same marked only each sound over idle question no_less sums
    answered is said_is =
    let one =
    compared_marks pulling m config came asked written said (bytes_came later) (bytes_pulled marked.later ++ left) replied differ same marked question
    (sym (flat_map-append (λ (c : Came). c.bytes) asked later) ∙ is)
    (sym (append_assoc (bytes_pulled marked.asked) (bytes_pulled marked.later) left)
    ∙ ap (λ (l : List ℕ). l ++ left) (sym (flat_map-append (λ (c : PulledPiece). c.bytes) marked.asked marked.later))
    ∙ ap (λ (ps : List PulledPiece). bytes_pulled ps ++ left) (sym marked.order) ∙ said_is) in
    let whole = came_all (Some (buckets_asked marked.marks)) (fault_of_pulling pulling) (answered_of pulling.plan) pulling.lines marked.then marked.later
    (kept_answer pulling) marked.after (due_have pulling) sound over idle marked.pulls.pulls in
    both_brought pulling m held config came asked later written said replied left differ same marked question one sums only each whole no_less answered
    bucket
