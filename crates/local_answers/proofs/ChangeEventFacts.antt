-- What a running replica holds after the events of a world.
use Rattle.std.proofs.Common.{◌≡◌, ◌≢◌, ℕ, ◌<◌, ◌≤◌, ◌⊎◌, inl, inr, Bool, true, false, ◌&&◌, List, [], ◌∷◌, length, refl, sym, ap, ◌∙◌, subst, arith}
use Rattle.std.proofs.Common.{append-nil, le-leb, nat_le, Some}
use Rattle.std.specs.Prelude.{Contains, slice_get}
use Rattle.std.proofs.lemmas.Bool.{and_from, and_parts}
use Rattle.std.specs.List.{AllByRecursion}
use Rattle.std.specs.declared.cmp.Ordering.{Ordering}
use Rattle.std.specs.declared.cmp.Ordering.TheVariants.{Less, Equal, Greater}
use Rattle.fed_config.specs.Configuration.{Configuration, HasDomain}
use Rattle.receipt_core.specs.Acceptance.{IsFitting, IsMeaning, Meaning}
use Rattle.receipt_core.specs.declared.distrust.Distrust.{Distrust}
use Rattle.receipt_core.specs.Receipt.{Receipt, distrust_cmp, receipt_cmp}
use Rattle.receipt_core.specs.Rising.{placed, with_item}
use Rattle.receipt_core.proofs.RisingFacts.{Contains-from_has, Has, Has-from_contains, with_item-keeps}
use Rattle.replica_core.specs.Absorbing.{with_entries, with_entry}
use Rattle.replica_core.specs.Convergence.{Gains, IsPartOf, only_receipt, only_record}
use Rattle.replica_core.specs.Session.{HaveMessage, give_of, have_of, state_of}
use Rattle.replica_core.specs.State.{State, ids_named, is_within_limits, joined, limits_of, no_state}
use Rattle.replica_core.specs.World.{Rules, World, WorldRun, apply, empty_world, gained, gains, happens, is_replica, rules_of, rules_with, run_from}
use Rattle.replica_core.specs.World.{give_sent, have_sent, is_fitting, is_known, sends, where_so}
use Rattle.replica_core.specs.declared.entry.Entry.{Entry}
use Rattle.replica_core.specs.declared.entry.Entry.TheVariants.{Record, Receipt as AReceipt}
use Rattle.replica_core.specs.declared.event.Event.TheVariants.{Answer, Ask, Revoke, Take}
use Rattle.replica_core.proofs.ContainsFacts.{each-from}
use Rattle.replica_core.proofs.EventFacts.{at-here, at-other, part-refl, part-trans, replica-true}
use Rattle.replica_core.proofs.ExchangeFacts.{answered-is, asked-is, content_of, with_message}
use Rattle.replica_sync.proofs.PullingFacts.{longer_with_items}
use Rattle.replica_journal.specs.Journal.{entry_text}
use Rattle.replica_sync.specs.PulledPieces.{Journals}
use Rattle.local_answers.specs.ChangeEvents.{AppendsTo, BringsTo, event_of, events_of, replica_in, sent_give, sent_have}
use Rattle.local_answers.specs.Journalling.{JournalsChange}
use Rattle.fedbundle.specs.CommandRun.{StateRun}
use Rattle.fed_config.specs.declared.limits.Limits.{Limits}
use Rattle.receipt_core.specs.Limits.{receipt_limit, record_limit}
use Rattle.receipt_core.proofs.LimitFacts.{receipt_limit-least, record_limit-least}
use Rattle.closure_core.specs.Alike.{with_limits}

-- ---- sets that grow

-- the same step of two sets; for `item-or-same`
placed-or-same : {A : Type 0} (o : Ordering) (item head : A) (rest longer : List A) → Has longer item ⊎ (longer ≡ rest)
    → Has (placed o item head rest longer) item ⊎ (placed o item head rest longer ≡ head ∷ rest)
placed-or-same Less item head rest longer h = inl (inl refl)
placed-or-same Equal item head rest longer h = inr refl
placed-or-same Greater item head rest longer (inl h) = inl (inr h)
placed-or-same Greater item head rest longer (inr e) = inr (ap (λ l. head ∷ l) e)

-- With an item a set has it, or is what it was.
item-or-same : {A : Type 0} (cmp : A → A → Ordering) (item : A) (set : List A) → Has (with_item cmp item set) item ⊎ (with_item cmp item set ≡ set)
item-or-same cmp item [] = inl (inl refl)
item-or-same cmp item (head ∷ rest) = placed-or-same (cmp item head) item head rest (with_item cmp item rest) (item-or-same cmp item rest)

-- The second state has all that the first one has, and no fewer.
pub record IsBelow (small large : State) : Type 0 where
  pub part : IsPartOf small large
  pub few : length small.held ≤ length large.held
  pub few_records : length small.records ≤ length large.records

pub below-itself : (state : State) → IsBelow state state
below-itself state = record { part = part-refl state; few = omega arith; few_records = omega arith }

below-both : (a b c : State) → IsBelow a b → IsBelow b c → IsBelow a c
below-both a b c p q = record {
  part = part-trans a b c p.part q.part;
  few = let first = p.few in let second = q.few in omega (arith, first, second);
  few_records = let first = p.few_records in let second = q.few_records in omega (arith, first, second);
}

-- A set with one more item has what it had.
kept-with : {A : Type 0} (cmp : A → A → Ordering) (item : A) (set : List A) (x : A) → Contains set x → Contains (with_item cmp item set) x
kept-with cmp item set x c = Contains-from_has (with_item cmp item set) x (with_item-keeps cmp item set x (Has-from_contains set x c))

-- With an entry no less is held.
pub below-one : (entry : Entry) (m : Meaning) → IsBelow (state_of m) (state_of (with_entry entry m))
below-one (Record x) m = record {
  part = record { receipts = λ r h. h; distrusts = λ y h. kept-with distrust_cmp x m.records y h };
  few = omega arith;
  few_records = longer_with_items distrust_cmp (x ∷ []) m.records;
}
below-one (AReceipt r) m = record {
  part = record { receipts = λ s h. kept-with receipt_cmp r m.held s h; distrusts = λ y h. h };
  few = longer_with_items receipt_cmp (r ∷ []) m.held;
  few_records = omega arith;
}

-- Nor with many.
pub below-all : (entries : List Entry) (m : Meaning) → IsBelow (state_of m) (state_of (with_entries entries m))
below-all [] m = below-itself (state_of m)
below-all (entry ∷ entries) m =
    below-both (state_of m) (state_of (with_entry entry m)) (state_of (with_entries entries (with_entry entry m)))
    (below-one entry m) (below-all entries (with_entry entry m))

-- The configuration is unchanged.
one-config : (entry : Entry) (m : Meaning) → (with_entry entry m).config ≡ m.config
one-config (Record x) m = refl
one-config (AReceipt r) m = refl

pub same-config : (entries : List Entry) (m : Meaning) → (with_entries entries m).config ≡ m.config
same-config [] m = refl
same-config (entry ∷ entries) m = same-config entries (with_entry entry m) ∙ one-config entry m

-- ---- what a replica of the configuration can hold

-- all of it fits, and it is not too much
pub record IsHoldable (c : Configuration) (state : State) : Type 0 where
  pub fitting : AllByRecursion (IsFitting c) state.held
  pub domains : AllByRecursion (λ x. HasDomain c x.domain) state.records
  pub few : length state.held ≤ receipt_limit c
  pub few_records : length state.records ≤ record_limit c

pub meaning-holdable : (c : Configuration) (m : Meaning) → m.config ≡ c → IsMeaning m → IsHoldable c (state_of m)
meaning-holdable c m e valid = record {
  fitting = subst (λ (d : Configuration). AllByRecursion (IsFitting d) m.held) e valid.fitting;
  domains = subst (λ (d : Configuration). AllByRecursion (λ x. HasDomain d x.domain) m.records) e valid.domains;
  few = subst (λ (d : Configuration). length m.held ≤ receipt_limit d) e valid.few;
  few_records = subst (λ (d : Configuration). length m.records ≤ record_limit d) e valid.few_records;
}

-- What is below it is within the limits.
pub below-within : (c : Configuration) (small large : State) → IsBelow small large → IsHoldable c large → is_within_limits (limits_of c) small ≡ true
below-within c small large part is =
    let less = part.few in
    let few = is.few in
    let less_records = part.few_records in
    let few_records = is.few_records in
    and_from _ _ (le-leb (length small.held) (receipt_limit c) (omega (arith, less, few)))
    (le-leb (length small.records) (record_limit c) (omega (arith, less_records, few_records)))

-- So it is for a replica with these limits in a world.
own-within : (c : Configuration) (limits : ℕ → Limits) (i : ℕ) → limits i ≡ c.limits → (small large : State) → IsBelow small large → IsHoldable c large
    → is_within_limits (limits_of (with_limits c (limits i))) small ≡ true
own-within c limits i own small large part is =
    ap (λ (l : Limits). is_within_limits (limits_of (with_limits c l)) small) own ∙ below-within c small large part is

-- ---- the world's tests

-- A test that lets something be gained has passed.
has-passed : (b : Bool) (limits : ℕ → Limits) (gain : State) → (apply limits empty_world (where_so b (gains 0 gain))).now 0 ≡ gain
    → (no_state ≡ gain → ⊥) → b ≡ true
has-passed true limits gain e some = refl
has-passed false limits gain e some = absurd (some e)

-- a world of one replica to which nothing has happened
abbrev fresh : Configuration → WorldRun
fresh c = record { config = c; limits = λ replica. c.limits; replicas = 1; events = [] }

-- One receipt, or one record, is within the limits.
one-receipt : (c : Configuration) (r : Receipt) → is_within_limits (limits_of c) (only_receipt r) ≡ true
one-receipt c r =
    and_from (nat_le 1 (receipt_limit c)) (nat_le 0 (record_limit c))
    (le-leb 1 (receipt_limit c) (receipt_limit-least c)) (le-leb 0 (record_limit c) (omega arith))

one-record : (c : Configuration) (x : Distrust) → is_within_limits (limits_of c) (only_record x) ≡ true
one-record c x =
    and_from (nat_le 0 (receipt_limit c)) (nat_le 1 (record_limit c))
    (le-leb 0 (receipt_limit c) (omega arith)) (le-leb 1 (record_limit c) (record_limit-least c))

-- A receipt that fits passes the world's test.
receipt-passes : ((past : WorldRun) (i : ℕ) (r : Receipt) → i < past.replicas → IsFitting past.config r → Gains past (Take i r) i (only_receipt r))
    → (c : Configuration) (r : Receipt) → IsFitting c r → is_fitting c r ≡ true
receipt-passes takes c r fits =
    (and_parts (is_replica (rules_of c 1) 0) (is_fitting c r)
    (has-passed (is_replica (rules_of c 1) 0 && is_fitting c r) (rules_of c 1).limits (only_receipt r)
    (takes (fresh c) 0 r (omega arith) fits (one-receipt c r))
    (λ e. let none : [] ≡ r ∷ [] = ap (λ (s : State). s.held) e in cc))).1

-- A record of a domain of the configuration passes the world's test.
record-passes : ((past : WorldRun) (i : ℕ) (x : Distrust) → i < past.replicas → HasDomain past.config x.domain → Gains past (Revoke i x) i (only_record x))
    → (c : Configuration) (x : Distrust) → HasDomain c x.domain → is_known c x.domain ≡ true
record-passes revokes c x known =
    (and_parts (is_replica (rules_of c 1) 0) (is_known c x.domain)
    (has-passed (is_replica (rules_of c 1) 0 && is_known c x.domain) (rules_of c 1).limits (only_record x)
    (revokes (fresh c) 0 x (omega arith) known (one-record c x))
    (λ e. let none : [] ≡ x ∷ [] = ap (λ (s : State). s.records) e in cc))).1

-- ---- one event

-- A gain within the limits is joined if the test passes. If it does not pass, the gain has nothing
-- new.
gain-is : (limits : ℕ → Limits) (w : World) (i : ℕ) (state gain : State) (b : Bool) → w.now i ≡ state → (b ≡ true) ⊎ (joined state gain ≡ state)
    → is_within_limits (limits i) (joined state gain) ≡ true → (apply limits w (where_so b (gains i gain))).now i ≡ joined state gain
gain-is limits w i state gain true here h room =
    ap (λ (t : Bool). (gained t w i (joined (w.now i) gain)).now i) (ap (λ (s : State). is_within_limits (limits i) (joined s gain)) here ∙ room)
    ∙ at-here i (joined (w.now i) gain) w.now ∙ ap (λ (s : State). joined s gain) here
gain-is limits w i state gain false here (inl e) room = absurd (let bad : false ≡ true = e in cc)
gain-is limits w i state gain false here (inr same) room = here ∙ sym same

-- Nothing else changes in a world when a replica gains.
pub record OnlyAt (i : ℕ) (old new : World) : Type 0 where
  pub others : (j : ℕ) → j ≢ i → new.now j ≡ old.now j
  pub sent : new.sent ≡ old.sent
  pub saved : new.saved ≡ old.saved

only-nothing : (i : ℕ) (w : World) → OnlyAt i w w
only-nothing i w = record { others = λ j d. refl; sent = refl; saved = refl }

only-both : (i : ℕ) (a b c : World) → OnlyAt i a b → OnlyAt i b c → OnlyAt i a c
only-both i a b c p q = record { others = λ j d. q.others j d ∙ p.others j d; sent = q.sent ∙ p.sent; saved = q.saved ∙ p.saved }

only-gained : (i : ℕ) (w : World) (state : State) (b : Bool) → OnlyAt i w (gained b w i state)
only-gained i w state true = record { others = λ j d. at-other j i state w.now d; sent = refl; saved = refl }
only-gained i w state false = only-nothing i w

only-where : (limits : ℕ → Limits) (i : ℕ) (w : World) (gain : State) (b : Bool) → OnlyAt i w (apply limits w (where_so b (gains i gain)))
only-where limits i w gain true = only-gained i w (joined (w.now i) gain) (is_within_limits (limits i) (joined (w.now i) gain))
only-where limits i w gain false = only-nothing i w

only-event : (rules : Rules) (i : ℕ) (entry : Entry) (w : World) → OnlyAt i w (happens rules w (event_of i entry))
only-event rules i (Record x) w = only-where rules.limits i w (only_record x) (is_replica rules i && rules.knows x.domain)
only-event rules i (AReceipt r) w = only-where rules.limits i w (only_receipt r) (is_replica rules i && rules.fits r)

-- So it is with the events of many entries.
pub only-run : (rules : Rules) (entries : List Entry) (i : ℕ) (w : World) → OnlyAt i w (run_from rules w (events_of i entries))
only-run rules [] i w = only-nothing i w
only-run rules (entry ∷ entries) i w =
    let next = happens rules w (event_of i entry) in
    only-both i w next (run_from rules next (events_of i entries)) (only-event rules i entry w) (only-run rules entries i next)

-- ---- what is held after the events

module _ (takes : (past : WorldRun) (i : ℕ) (r : Receipt) → i < past.replicas → IsFitting past.config r → Gains past (Take i r) i (only_receipt r))
    (revokes : (past : WorldRun) (i : ℕ) (x : Distrust) → i < past.replicas → HasDomain past.config x.domain → Gains past (Revoke i x) i (only_record x)) where
  -- After the event of an entry it is held, if that is part of what can be held.
  entry-is : (c : Configuration) (limits : ℕ → Limits) (n i : ℕ) → i < n → limits i ≡ c.limits → (entry : Entry) (m : Meaning)
      (w : World) (large : State) → w.now i ≡ state_of m → IsBelow (state_of (with_entry entry m)) large → IsHoldable c large
      → (happens (rules_with c limits n) w (event_of i entry)).now i ≡ state_of (with_entry entry m)
  entry-is c limits n i l own (Record x) m w large here below can =
      gain-is (rules_with c limits n).limits w i (state_of m) (only_record x) (is_replica (rules_with c limits n) i && is_known c x.domain) here
      (elim (item-or-same distrust_cmp x m.records) [
        | inl h ↦ inl (and_from _ _ (replica-true (rules_with c limits n) i l)
            (record-passes revokes c x (each-from (λ y. HasDomain c y.domain) large.records can.domains x
            (below.part.distrusts x (Contains-from_has (with_item distrust_cmp x m.records) x h)))))
        | inr e ↦ inr (λ t. record { held = m.held; records = e t })
      ])
      (own-within c limits i own (state_of (with_entry (Record x) m)) large below can)
  entry-is c limits n i l own (AReceipt r) m w large here below can =
      gain-is (rules_with c limits n).limits w i (state_of m) (only_receipt r) (is_replica (rules_with c limits n) i && is_fitting c r) here
      (elim (item-or-same receipt_cmp r m.held) [
        | inl h ↦ inl (and_from _ _ (replica-true (rules_with c limits n) i l)
            (receipt-passes takes c r (each-from (IsFitting c) large.held can.fitting r
            (below.part.receipts r (Contains-from_has (with_item receipt_cmp r m.held) r h)))))
        | inr e ↦ inr (λ t. record { held = e t; records = m.records })
      ])
      (own-within c limits i own (state_of (with_entry (AReceipt r) m)) large below can)

  -- After the events of entries they are held, if all of that can be.
  entries-are : (c : Configuration) (limits : ℕ → Limits) (n i : ℕ) → i < n → limits i ≡ c.limits → (entries : List Entry) (m : Meaning)
      (w : World) → w.now i ≡ state_of m
      → IsHoldable c (state_of (with_entries entries m)) → (run_from (rules_with c limits n) w (events_of i entries)).now i ≡ state_of (with_entries entries m)
  entries-are c limits n i l own [] m w here can = here
  entries-are c limits n i l own (entry ∷ entries) m w here can =
      let one = with_entry entry m in
      entries-are c limits n i l own entries one (happens (rules_with c limits n) w (event_of i entry))
      (entry-is c limits n i l own entry m w (state_of (with_entries entries one)) here (below-all entries one) can) can

  pub change-in-world : (m new : Meaning) (entries : List Entry) (limits : ℕ → Limits) (n i : ℕ) (w : World) → i < n
      → limits i ≡ m.config.limits → w.now i ≡ state_of m → IsMeaning new
      → new ≡ with_entries entries m → (run_from (rules_with m.config limits n) w (events_of i entries)).now i ≡ state_of new
  change-in-world m new entries limits n i w l own here valid is =
      entries-are m.config limits n i l own entries m w here
      (meaning-holdable m.config (with_entries entries m) (same-config entries m) (subst IsMeaning is valid))
      ∙ ap state_of (sym is)

  -- What a request changes.
  pub request-in-world : (text : List ℕ) (state : StateRun) (limits : ℕ → Limits) (n i : ℕ) (w : World) → i < n
      → limits i ≡ state.old.meaning.config.limits → w.now i ≡ state_of state.old.meaning
      → IsMeaning state.new.meaning → JournalsChange text state
      → BringsTo (replica_in (rules_with state.old.meaning.config limits n) w i) text state.new.meaning
  request-in-world text state limits n i w l own here valid change = record {
    entries = change.entries;
    each = change.lines.each;
    spelt = change.lines.spelt;
    holds = change-in-world state.old.meaning state.new.meaning change.entries limits n i w l own here valid change.meaning;
  }

  -- What a piece of an answer changes.
  pub piece-in-world : (old new : Meaning) (before after : List ℕ) (limits : ℕ → Limits) (n i : ℕ) (w : World) → i < n
      → limits i ≡ old.config.limits → w.now i ≡ state_of old → IsMeaning new
      → Journals old new before after → AppendsTo (replica_in (rules_with old.config limits n) w i) before after new
  piece-in-world old new before after limits n i w l own here valid (inl same) = record {
    text = [];
    appended = same.1 ∙ sym (append-nil before);
    brings = record { entries = []; each = tt; spelt = refl; holds = here ∙ ap state_of (sym same.0) };
  }
  piece-in-world old new before after limits n i w l own here valid (inr one) = record {
    text = entry_text one.entry;
    appended = one.text;
    brings = record {
      entries = one.entry ∷ [];
      each = (one.form, tt);
      spelt = sym (append-nil (entry_text one.entry));
      holds = change-in-world old new (one.entry ∷ []) limits n i w l own here valid one.meaning;
    };
  }

-- ---- what is sent

-- The have that a replica makes is the one that it sends by asking.
pub asks-in-world : (m : Meaning) (rules : Rules) (i bucket : ℕ) (w : World) → i < rules.replicas → bucket ≤ 255 → w.now i ≡ state_of m
    → happens rules w (Ask i bucket) ≡ apply rules.limits w (sends (sent_have i (have_of m bucket)))
asks-in-world m rules i bucket w l low here =
    asked-is rules w i bucket l low
    ∙ ap (λ (state : State). with_message w (have_sent i bucket (ids_named state bucket))) here

-- The answer that a replica makes is the one that it sends by answering.
pub answers-in-world : (m : Meaning) (have : HaveMessage) (rules : Rules) (i asker place : ℕ) (w : World) → i < rules.replicas → w.now i ≡ state_of m
    → slice_get w.sent place ≡ Some (sent_have asker have)
    → happens rules w (Answer i place) ≡ apply rules.limits w (sends (sent_give i place (give_of m have)))
answers-in-world m have rules i asker place w l here there =
    answered-is rules w asker i have.bucket place have.ids l there
    ∙ ap (λ (state : State). with_message w (give_sent i place (content_of state have.bucket have.ids))) here
