-- What a pull writes is served without an error, and what is written to it is read without one.
use Rattle.std.proofs.Common.{◌≡◌, ◌≢◌, ℕ, ◌+◌, ◌<◌, ◌≤◌, ◌⊎◌, inl, inr, Bool, true, false, cond, nat_le, leb-true, List, [], ◌∷◌, ◌++◌, length, map}
use Rattle.std.proofs.Common.{Option, Some, refl, ap, sym, ◌∙◌, subst, arith}
use Rattle.std.proofs.Common.{length-append}
use Rattle.std.specs.Prelude.{IfErr, Result, Ok, Err, filter}
use Rattle.std.specs.List.{AllByRecursion, flat_map}
use Rattle.std.specs.List.Sorted.{IsStrictlySortedBy}
use Rattle.std.specs.Cmp.{IsTotalOrder}
use Rattle.std.specs.declared.cmp.Ordering.{Ordering}
use Rattle.std.proofs.lemmas.Bool.{and_parts}
use Rattle.std.specs.Io.KnownBytes.{Appends}
use Rattle.std.proofs.lemmas.List.{length-map}
use Rattle.std.proofs.lemmas.List.Folds.{flat_map-map}
use Rattle.fed_config.specs.Configuration.{Configuration, HasDomain, IsConfiguration, config_id_of}
use Rattle.closure_core.proofs.AlikeFacts.{domain_alike, one_digest, same_turned}
use Rattle.receipt_core.specs.Order.{receipt_total, distrust_total}
use Rattle.receipt_core.specs.declared.distrust.Distrust.{Distrust}
use Rattle.receipt_core.specs.Receipt.{Receipt, IsDistrust, IsReceipt, receipt_cmp, distrust_cmp}
use Rattle.receipt_core.specs.Rising.{with_items}
use Rattle.receipt_core.specs.Acceptance.{IsFitting, Meaning, IsMeaning}
use Rattle.closure_core.proofs.AlikeFacts.{fits_alike}
use Rattle.replica_core.proofs.JoinLawFacts.{all-map}
use Rattle.receipt_core.proofs.RisingFacts.{Has, IsExactOn, all_from_has, each_has, same_members, with_items-all, with_items-has, with_items-keeps}
use Rattle.receipt_core.proofs.RisingFacts.{with_items-new, with_items-rising}
use Rattle.closure_core.specs.declared.error.TakeError.{TakeError}
use Rattle.replica_core.specs.State.{State, is_within_limits, joined, limits_of, meaning_of_state}
use Rattle.replica_core.specs.Session.{HaveMessage, GiveMessage, give_of, state_of}
use Rattle.replica_core.specs.declared.error.SyncError.{SyncError}
use Rattle.replica_core.specs.declared.error.SyncError.TheVariants.{BadHeader, ConfigDiffers, VersionDiffers, NotCanonical, NotRising, BadCount, Truncated}
use Rattle.replica_core.specs.declared.error.SyncError.TheVariants.{Refused, Io, NoMemory}
use Rattle.replica_sync.specs.SessionRun.{known_run, session_run, IsWritten}
use Rattle.replica_core.specs.declared.error.PullFault.{PullFault}
use Rattle.replica_texts.specs.Messages.{have_text, give_text}
use Rattle.replica_texts.specs.Haves.{IsHaveOf}
use Rattle.replica_sync.specs.Serving.{ServesAll, ServesUpTo, gives_text}
use Rattle.replica_sync.specs.Pulling.{AreGives, PullsAll, PullsUpTo, Pulls, after_gives, line_count, have_in, haves_of}
use Rattle.replica_sync.proofs.OwnMessageFacts.{answer-given, askable-have}
use Rattle.replica_sync.proofs.PullingFacts.{longer_with_items}
use Rattle.replica_sync.proofs.SessionFacts.{HoldsGives, IsSpelling, same-haves, unpulled, unserved}
use Rattle.replica_sync.proofs.WelcomeFacts.{IsRisingState, exact-receipts, exact-records, meaning-within, rising-after, rising-joined, rising-meaning}
use Rattle.replica_sync.proofs.WelcomeFacts.{within-after, within-joined}
use Rattle.receipt_core.specs.Limits.{receipt_limit, record_limit}
use Rattle.closure_core.specs.Alike.{IsSameTrust}

-- ---- the haves of a session

-- They are haves of the configuration, one about each bucket from this one on.
abbrev pub AskInTurn : Configuration → ℕ → List HaveMessage → Type 0
AskInTurn config bucket [] = Unit {0}
AskInTurn config bucket (q ∷ qs) = (q.bucket ≡ bucket) × (IsHaveOf config q × AskInTurn config (bucket + 1) qs)

-- What a replica asks is a have of its configuration.
pub own-have : (c : Configuration) (state : State) (bucket : ℕ) → IsMeaning (meaning_of_state c state) → bucket < 256
    → IsHaveOf c (have_in c state bucket)
own-have c state bucket valid below = record { askable = askable-have (meaning_of_state c state) bucket valid below; own = refl }

-- those that were answered, and what is asked after them
in-turn : (c : Configuration) (bucket : ℕ) (state : State) (gives : List GiveMessage) (later : List HaveMessage) → IsRisingState state
    → IsMeaning (meaning_of_state c (after_gives state gives)) → bucket + length gives ≤ 256
    → AskInTurn c (bucket + length gives) later → AskInTurn c bucket (haves_of c bucket state gives ++ later)
in-turn c bucket state [] later rising valid few next =
    let same : bucket + 0 ≡ bucket = omega arith in
    subst (λ (b : ℕ). AskInTurn c b later) same next
in-turn c bucket state (r ∷ gives) later rising valid few next =
    let place : bucket + length (r ∷ gives) ≡ bucket + 1 + length gives = omega arith in (
      refl,
      (
        own-have c state bucket
            (meaning-within c state (after_gives state (r ∷ gives)) (within-after state (r ∷ gives)) rising valid) (omega (arith, few)),
        in-turn c (bucket + 1) (joined state r.content) gives later (rising-joined state r.content rising) valid
            (omega (arith, few)) (subst (λ (b : ℕ). AskInTurn c b later) place next),
      ),
    )

-- with another configuration of the same digest
own-of : (c d : Configuration) (q : HaveMessage) → config_id_of c ≡ config_id_of d → IsHaveOf c q → IsHaveOf d q
own-of c d q same is = record { askable = is.askable; own = is.own ∙ same }

-- Haves that are asked in turn are of each configuration with this digest.
each-own : (c d : Configuration) (bucket : ℕ) (qs : List HaveMessage) → config_id_of c ≡ config_id_of d
    → AskInTurn c bucket qs → AllByRecursion (IsHaveOf d) qs
each-own c d bucket [] same h = tt
each-own c d bucket (q ∷ qs) same h = (own-of c d q same h.1.0, each-own c d (bucket + 1) qs same h.1.1)

-- ---- what a pull wrote

-- the haves of a pull that got this many answers
abbrev pub all-asked : Meaning → List GiveMessage → List HaveMessage
all-asked m gives = haves_of m.config 0 (state_of m) gives

-- the have that was not answered to its end
abbrev pub last-asked : Meaning → List GiveMessage → List HaveMessage
last-asked m gives = have_in m.config (after_gives (state_of m) gives) (length gives) ∷ []

-- What was written are these haves, one about each bucket.
pub record HasAskedInTurn (m : Meaning) (asked : List ℕ) (haves : List HaveMessage) : Type 0 where
  pub each : AskInTurn m.config 0 haves
  pub text : asked ≡ flat_map have_text haves

-- A whole pull has asked about all buckets in turn.
pub whole-asked : (m held : Meaning) (stream : Option (List ℕ)) (asked : List ℕ) → IsMeaning m → IsMeaning held
    → (all : PullsAll (session_run stream (Some []) (Some asked)) m held) → HasAskedInTurn m asked (all-asked m all.gives ++ [])
whole-asked m held stream asked valid kept all =
    let many = all.all in
    record {
      each = in-turn m.config 0 (state_of m) all.gives [] (rising-meaning m valid) (subst IsMeaning all.meaning kept) (omega (arith, many)) tt;
      text = all.asked ∙ ap (flat_map have_text) (sym (append-none (all-asked m all.gives)));
    }
  where
    append-none : (qs : List HaveMessage) → qs ++ [] ≡ qs
    append-none [] = refl
    append-none (q ∷ qs) = ap (λ (rest : List HaveMessage). q ∷ rest) (append-none qs)

-- if neither a device nor memory failed, all that was due is written
written-whole : (e : SyncError) (old new : Option (List ℕ)) (text : List ℕ) → e ≢ Io → e ≢ NoMemory → IsWritten e old new text → Appends old new text
written-whole BadHeader old new text calm ample h = h
written-whole ConfigDiffers old new text calm ample h = h
written-whole VersionDiffers old new text calm ample h = h
written-whole (NotCanonical n) old new text calm ample h = h
written-whole (NotRising n) old new text calm ample h = h
written-whole BadCount old new text calm ample h = h
written-whole Truncated old new text calm ample h = h
written-whole (Refused n why) old new text calm ample h = h
written-whole Io old new text calm ample h = absurd (calm refl)
written-whole NoMemory old new text calm ample h = absurd (ample refl)

-- A pull that broke off has asked about the first buckets in turn.
pub part-asked : (m held : Meaning) (stream : Option (List ℕ)) (asked : List ℕ) (e : SyncError) → IsMeaning m → IsMeaning held
    → e ≢ Io → e ≢ NoMemory → (part : PullsUpTo (session_run stream (Some []) (Some asked)) m held e)
    → HasAskedInTurn m asked (all-asked m part.gives ++ last-asked m part.gives)
part-asked m held stream asked e valid kept calm ample part =
    let few = part.few in
    let state = after_gives (state_of m) part.gives in
    let here = meaning-within m.config state (joined state part.content) (within-joined state part.content)
    (rising-after (state_of m) part.gives (rising-meaning m valid)) (subst IsMeaning part.meaning kept) in
    let place : 0 + length part.gives ≡ length part.gives = omega arith in
    record {
      each = in-turn m.config 0 (state_of m) part.gives (last-asked m part.gives) (rising-meaning m valid) here (omega (arith, few))
          (sym place, (own-have m.config state (length part.gives) here few, tt));
      text = written-whole e (Some []) (Some asked) _ calm ample part.asked;
    }

-- ---- what is served

-- the haves of a pull are served without an error
asked-served : (m k : Meaning) (asked : List ℕ) (haves : List HaveMessage) (before after : Option (List ℕ)) (e : SyncError)
    → config_id_of m.config ≡ config_id_of k.config → HasAskedInTurn m asked haves
    → e ≢ Io → e ≢ NoMemory → ServesUpTo (session_run (Some asked) before after) k e → ⊥
asked-served m k asked haves before after e same asks calm ample part =
    unserved k.config asked haves part.haves part.left e (each-own m.config k.config 0 haves same asks.each)
    part.asks.each asks.text part.asks.text calm ample part.cause

-- A session that serves what a pull wrote has no error.
pub pull-served : (m k held : Meaning) (stream : Option (List ℕ)) (asked : List ℕ) (result : Result ℕ PullFault)
    (before after : Option (List ℕ)) (e : SyncError) → IsMeaning m → IsMeaning held → config_id_of m.config ≡ config_id_of k.config
    → IfErr result (λ fault. (fault.why ≢ Io) × (fault.why ≢ NoMemory)) → Pulls (session_run stream (Some []) (Some asked)) m held result
    → e ≢ Io → e ≢ NoMemory → ServesUpTo (session_run (Some asked) before after) k e → ⊥
pull-served m k held stream asked (Ok count) before after e valid kept same fine pulls calm ample part =
    asked-served m k asked (all-asked m pulls.0.gives ++ []) before after e same
    (whole-asked m held stream asked valid kept pulls.0) calm ample part
pull-served m k held stream asked (Err fault) before after e valid kept same fine pulls calm ample part =
    asked-served m k asked (all-asked m pulls.0.gives ++ last-asked m pulls.0.gives) before after e same
    (part-asked m held stream asked fault.why valid kept fine.0 fine.1 pulls.0) calm ample part

-- ---- what is answered

-- what the other side answers to the haves
abbrev pub all-gives : Meaning → List HaveMessage → List GiveMessage
all-gives k haves = map (give_of k) haves

-- what is answered to the haves of a session are the answers that it wants
pub gives-in-turn : (c : Configuration) (k : Meaning) (bucket : ℕ) (qs : List HaveMessage) → IsMeaning k
    → config_id_of k.config ≡ config_id_of c → AskInTurn c bucket qs → AreGives c bucket (all-gives k qs)
gives-in-turn c k bucket [] valid same h = tt
gives-in-turn c k bucket (q ∷ qs) valid same h = (
  record { own = same; about = h.0; form = answer-given k q valid h.1.0.askable },
  gives-in-turn c k (bucket + 1) qs valid same h.1.1,
)

-- What was answered to the haves that a pull wrote, are the texts of the answers to them.
pub replied-is : (m k : Meaning) (asked replied : List ℕ) (count : ℕ) (haves : List HaveMessage)
    → config_id_of m.config ≡ config_id_of k.config → HasAskedInTurn m asked haves
    → ServesAll (known_run asked replied) k count → replied ≡ flat_map give_text (all-gives k haves)
replied-is m k asked replied count haves same asks all =
    let one = same-haves k.config haves all.haves (each-own m.config k.config 0 haves same asks.each) all.each
    (sym asks.text ∙ all.text) in
    all.written ∙ ap (gives_text k) (sym one) ∙ sym (flat_map-map give_text (give_of k) haves)

-- There is one have for each give.
pub length-asked : (c : Configuration) (bucket : ℕ) (state : State) (rs : List GiveMessage) → length (haves_of c bucket state rs) ≡ length rs
length-asked c bucket state [] = refl
length-asked c bucket state (r ∷ rs) = let later = length-asked c (bucket + 1) (joined state r.content) rs in omega (arith, later)

-- A pull that broke off had a give to its last have, or had none.
answered-or-not : (m k held : Meaning) (asked replied rest : List ℕ) (count : ℕ) (e : SyncError)
    → IsMeaning m → IsMeaning k → IsMeaning held → config_id_of m.config ≡ config_id_of k.config
    → ServesAll (known_run asked replied) k count → (part : PullsUpTo (known_run (replied ++ rest) asked) m held e)
    → e ≢ Io → e ≢ NoMemory
    → IsSpelling e ⊎ HoldsGives m.config (state_of m) (after_gives (state_of m) part.gives)
    (all-gives k (all-asked m part.gives ++ last-asked m part.gives)) part.gives → ⊥
answered-or-not m k held asked replied rest count e valid other kept same all part calm ample fine =
    let gives = part.gives in
    let haves = all-asked m gives ++ last-asked m gives in
    let asks = part-asked m held (Some (replied ++ rest)) asked e valid kept calm ample part in
    let text = replied-is m k asked replied count haves same asks all in
    let many = length-map haves (give_of k) in
    let both = length-append (all-asked m gives) (last-asked m gives) in
    let each = length-asked m.config 0 (state_of m) gives in
    unpulled m.config (state_of m) (after_gives (state_of m) gives) (replied ++ rest) (line_count gives + 1) part.content
    (all-gives k haves) gives (Some rest) part.left e
    (gives-in-turn m.config k 0 haves other (sym same) asks.each) part.session.each
    (omega (arith, many, both, each))
    (ap (λ (t : List ℕ). t ++ rest) text) part.session.text calm ample fine part.cause

-- A pull that reads what is answered to its haves has no error, except that what a line says may be
-- refused.
pub answered-pulled : (m k held : Meaning) (asked replied rest : List ℕ) (count : ℕ) (e : SyncError)
    → IsMeaning m → IsMeaning k → IsMeaning held → config_id_of m.config ≡ config_id_of k.config
    → ServesAll (known_run asked replied) k count → PullsUpTo (known_run (replied ++ rest) asked) m held e
    → e ≢ Io → e ≢ NoMemory → ((n : ℕ) (why : TakeError) → e ≢ Refused n why) → ⊥
answered-pulled m k held asked replied rest count e valid other kept same all part calm ample spelt =
    answered-or-not m k held asked replied rest count e valid other kept same all part calm ample (inl spelt)

-- ---- what two replicas hold together

-- One step of `filter-has`, for either outcome of the test.
filter-kept : {A : Type 0} (b : Bool) (x : A) (xs ys : List A) (a : A) → (Has ys a → Has xs a) → Has (cond b (x ∷ ys) ys) a → Has (x ∷ xs) a
filter-kept true x xs ys a later h = elim h [ inl e ↦ inl e | inr k ↦ inr (later k) ]
filter-kept false x xs ys a later h = inr (later h)

-- What a filter keeps was there.
filter-has : {A : Type 0} (p : A → Bool) (xs : List A) (a : A) → Has (filter p xs) a → Has xs a
filter-has p [] a h = h
filter-has p (x ∷ xs) a h = filter-kept (p x) x xs (filter p xs) a (filter-has p xs a) h

-- what is held after answers of the other was held by one of both
pub receipt-of-either : (state : State) (k : Meaning) (qs : List HaveMessage) (r : Receipt)
    → Has (after_gives state (all-gives k qs)).held r → Has state.held r ⊎ Has k.held r
receipt-of-either state k [] r h = inl h
receipt-of-either state k (q ∷ qs) r h =
    elim (receipt-of-either (joined state (give_of k q).content) k qs r h) [
      | inl here ↦ elim (with_items-has receipt_cmp (give_of k q).content.held state.held r here) [
        | inl new ↦ inr (filter-has _ k.held r new)
        | inr old ↦ inl old
      ]
      | inr there ↦ inr there
    ]

-- A record that is held after gives was held before, or the other side holds it.
pub record-of-either : (state : State) (k : Meaning) (qs : List HaveMessage) (x : Distrust)
    → Has (after_gives state (all-gives k qs)).records x → Has state.records x ⊎ Has k.records x
record-of-either state k [] x h = inl h
record-of-either state k (q ∷ qs) x h =
    elim (record-of-either (joined state (give_of k q).content) k qs x h) [
      | inl here ↦ elim (with_items-has distrust_cmp k.records state.records x here) [ inl new ↦ inr new | inr old ↦ inl old ]
      | inr there ↦ inr there
    ]

-- a sorted list is no longer than one that has all of it
no-longer-than : {A : Type 0} (P : A → Type 0) (cmp : A → A → Ordering) → IsTotalOrder cmp → IsExactOn P cmp → (xs ys : List A)
    → IsStrictlySortedBy cmp xs → IsStrictlySortedBy cmp ys → AllByRecursion P xs → AllByRecursion P ys
    → ((a : A) → Has xs a → Has ys a) → length xs ≤ length ys
no-longer-than P cmp total exact xs ys p q allxs allys part =
    let same : with_items cmp ys xs ≡ ys =
    same_members cmp total (with_items cmp ys xs) ys (with_items-rising cmp total ys xs p) q
    (λ a h. elim (with_items-has cmp ys xs a h) [ inl k ↦ k | inr k ↦ part a k ])
    (λ a h. with_items-new P cmp exact ys xs allys allxs a h) in
    let longer = longer_with_items cmp ys xs in
    let equal = ap length same in
    omega (arith, longer, equal)

module _ (m k : Meaning) (valid : IsMeaning m) (other : IsMeaning k) (same : IsSameTrust m.config k.config)
    (room : is_within_limits (limits_of m.config) (joined (state_of m) (state_of k)) ≡ true) (qs : List HaveMessage) where
  abbrev then : State
  then = after_gives (state_of m) (all-gives k qs)

  abbrev both : State
  both = joined (state_of m) (state_of k)

  rising-then : IsRisingState then
  rising-then = rising-after (state_of m) (all-gives k qs) (rising-meaning m valid)

  rising-both : IsRisingState both
  rising-both = rising-joined (state_of m) (state_of k) (rising-meaning m valid)

  each-receipt : (P : Receipt → Type 0) → AllByRecursion P m.held → AllByRecursion P k.held → AllByRecursion P then.held
  each-receipt P p q =
      all_from_has P then.held
      (λ r h. elim (receipt-of-either (state_of m) k qs r h) [ inl here ↦ each_has P m.held r p here | inr there ↦ each_has P k.held r q there ])

  each-record : (P : Distrust → Type 0) → AllByRecursion P m.records → AllByRecursion P k.records → AllByRecursion P then.records
  each-record P p q =
      all_from_has P then.records
      (λ x h. elim (record-of-either (state_of m) k qs x h) [ inl here ↦ each_has P m.records x p here | inr there ↦ each_has P k.records x q there ])

  few-receipts : length then.held ≤ receipt_limit m.config
  few-receipts =
      let less = no-longer-than IsReceipt receipt_cmp receipt_total exact-receipts then.held both.held rising-then.receipts rising-both.receipts
      (each-receipt IsReceipt valid.receipts other.receipts)
      (with_items-all IsReceipt receipt_cmp k.held m.held other.receipts valid.receipts)
      (λ r h. elim (receipt-of-either (state_of m) k qs r h) [
        | inl here ↦ with_items-keeps receipt_cmp k.held m.held r here
        | inr there ↦ with_items-new IsReceipt receipt_cmp exact-receipts k.held m.held other.receipts valid.receipts r there
      ]) in
      let room_here = leb-true (length both.held) (receipt_limit m.config)
      (and_parts (nat_le (length both.held) (receipt_limit m.config)) (nat_le (length both.records) (record_limit m.config)) room).0 in
      omega (arith, less, room_here)

  few-records : length then.records ≤ record_limit m.config
  few-records =
      let less = no-longer-than IsDistrust distrust_cmp distrust_total exact-records then.records both.records rising-then.records rising-both.records
      (each-record IsDistrust valid.distrusts other.distrusts)
      (with_items-all IsDistrust distrust_cmp k.records m.records other.distrusts valid.distrusts)
      (λ x h. elim (record-of-either (state_of m) k qs x h) [
        | inl here ↦ with_items-keeps distrust_cmp k.records m.records x here
        | inr there ↦ with_items-new IsDistrust distrust_cmp exact-records k.records m.records other.distrusts valid.distrusts x there
      ]) in
      let room_here = leb-true (length both.records) (record_limit m.config)
      (and_parts (nat_le (length both.held) (receipt_limit m.config)) (nat_le (length both.records) (record_limit m.config)) room).1 in
      omega (arith, less, room_here)

  -- if both together are within the limits, so is what is held after answers of the other
  meaning-then : IsMeaning (meaning_of_state m.config then)
  meaning-then = record {
    receipts = each-receipt IsReceipt valid.receipts other.receipts;
    rising = rising-then.receipts;
    fitting = each-receipt (IsFitting m.config) valid.fitting
        (all-map (IsFitting k.config) (IsFitting m.config) (fits_alike k.config m.config (same_turned m.config k.config same)) k.held other.fitting);
    few = few-receipts;
    distrusts = each-record IsDistrust valid.distrusts other.distrusts;
    records_rising = rising-then.records;
    domains = each-record (λ x. HasDomain m.config x.domain) valid.domains
        (all-map (λ x. HasDomain k.config x.domain) (λ x. HasDomain m.config x.domain)
        (λ x. domain_alike k.config m.config (same_turned m.config k.config same) x.domain) k.records other.domains);
    few_records = few-records;
  }

-- If both together are within the limits, nothing of it is refused either.
pub answered-taken : (m k held : Meaning) (asked replied rest : List ℕ) (count : ℕ) (e : SyncError)
    → IsConfiguration m.config → IsMeaning m → IsMeaning k → IsMeaning held → IsSameTrust m.config k.config
    → is_within_limits (limits_of m.config) (joined (state_of m) (state_of k)) ≡ true
    → ServesAll (known_run asked replied) k count → PullsUpTo (known_run (replied ++ rest) asked) m held e
    → e ≢ Io → e ≢ NoMemory → ⊥
answered-taken m k held asked replied rest count e configured valid other kept same room all part calm ample =
    answered-or-not m k held asked replied rest count e valid other kept (one_digest m.config k.config same) all part calm ample
    (inr (record {
      configured = configured;
      rising = rising-meaning m valid;
      valid = meaning-then m k valid other same room (all-asked m part.gives ++ last-asked m part.gives);
      at = refl;
    }))
