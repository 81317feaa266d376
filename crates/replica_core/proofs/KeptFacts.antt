-- What is so of all that is held, saved and sent remains so.
use Rattle.std.proofs.Common.{◌≡◌, ℕ, ◌≤◌, inl, inr, Bool, true, false, cond, ◌&&◌, ◌==◌, nat_le, List, [], ◌∷◌, refl, sym, subst}
use Rattle.std.specs.Prelude.{Contains, slice_get, Option, Some, None, not, ⊤}
use Rattle.std.proofs.lemmas.Bool.{and_parts}
use Rattle.receipt_core.specs.declared.distrust.Distrust.{Distrust}
use Rattle.receipt_core.specs.Receipt.{Receipt}
use Rattle.replica_core.specs.State.{State, joined, is_within_limits, is_of_bucket, is_named, receipts_lacking, first_of, ids_named}
use Rattle.replica_core.specs.World.{Message, have_sent, give_sent, World, Rules, Effect, gains, sends, saves, restarts, where_so, sends_give, takes_whole}
use Rattle.replica_core.specs.World.{takes_part, with_state, gained, apply, happens, run_from, is_replica}
use Rattle.replica_core.specs.declared.event.Event.{Event}
use Rattle.replica_core.specs.World.{sums_sent, marks_sent, without_records, sends_marks}
use Rattle.replica_core.specs.declared.event.Event.TheVariants.{Take, Revoke, Ask, Answer, Absorb, Part, Join, Save, Restart}
use Rattle.replica_core.specs.declared.event.Event.TheVariants.{AnswerReceipts, AskSums, AnswerSums}
use Rattle.replica_core.proofs.ContainsFacts.{contains-here, contains-later, contains-cases, contains-none, filter-from, get-cases}
use Rattle.replica_core.proofs.JoinLawFacts.{Laws, Keeps, keeps-joined, keeps-first}
use Rattle.replica_core.proofs.EventFacts.{at-here}
use Rattle.fed_config.specs.declared.limits.Limits.{Limits}

-- what an answer brings has the properties
abbrev pub KeepsMessage : (Receipt → Type 0) → (Distrust → Type 0) → Message → Type 0
KeepsMessage P Q (have_sent asker bucket ids) = ⊤
KeepsMessage P Q (give_sent answerer place content) = Keeps P Q content
KeepsMessage P Q (sums_sent asker) = ⊤
KeepsMessage P Q (marks_sent answerer place) = ⊤

-- All that is held has the properties, and so have the messages from a place on and, if A, what is
-- saved.
pub record IsKept (P : Receipt → Type 0) (Q : Distrust → Type 0) (place : ℕ) (A : Type 0) (w : World) : Type 0 where
  pub now : (i : ℕ) → Keeps P Q (w.now i)
  pub saved : A → (i : ℕ) → Keeps P Q (w.saved i)
  pub sent : (n : ℕ) (message : Message) → place ≤ n → slice_get w.sent n ≡ Some message → KeepsMessage P Q message

-- The event keeps them: what is taken or revoked has them, an answer that is taken is one from the
-- place on, and a replica restarts only if A.
abbrev pub Admits : Rules → (Receipt → Type 0) → (Distrust → Type 0) → ℕ → Type 0 → Event → Type 0
Admits rules P Q place A (Take i r) = is_replica rules i ≡ true → rules.fits r ≡ true → P r
Admits rules P Q place A (Revoke i x) = is_replica rules i ≡ true → rules.knows x.domain ≡ true → Q x
Admits rules P Q place A (Ask i b) = ⊤
Admits rules P Q place A (Answer j k) = ⊤
Admits rules P Q place A (AnswerReceipts j k) = ⊤
Admits rules P Q place A (AskSums i) = ⊤
Admits rules P Q place A (AnswerSums j k) = ⊤
Admits rules P Q place A (Absorb i k) = place ≤ k
Admits rules P Q place A (Part i k m) = place ≤ k
Admits rules P Q place A (Join i j) = ⊤
Admits rules P Q place A (Save i) = ⊤
Admits rules P Q place A (Restart i) = A

-- What holds of two states holds of the one that a test chooses.
keeps-at : (P : Receipt → Type 0) (Q : Distrust → Type 0) (b : Bool) (state other : State) → Keeps P Q state → Keeps P Q other → Keeps P Q (cond b state other)
keeps-at P Q true state other s o = s
keeps-at P Q false state other s o = o

-- It remains so when one replica's state is replaced by one that has the properties.
kept-state : (P : Receipt → Type 0) (Q : Distrust → Type 0) (place : ℕ) (A : Type 0) (w : World) (i : ℕ) (state : State)
    → IsKept P Q place A w → Keeps P Q state → IsKept P Q place A (with_state w i state)
kept-state P Q place A w i state h s = record {
  now = λ j. keeps-at P Q (j == i) state (w.now j) s (h.now j);
  saved = h.saved;
  sent = h.sent;
}

-- It remains so after a gain, whether that is within the limits or not.
kept-gained : (P : Receipt → Type 0) (Q : Distrust → Type 0) (place : ℕ) (A : Type 0) (b : Bool) (w : World) (i : ℕ)
    (state : State) → IsKept P Q place A w → Keeps P Q state → IsKept P Q place A (gained b w i state)
kept-gained P Q place A true w i state h s = kept-state P Q place A w i state h s
kept-gained P Q place A false w i state h s = h

-- Only the part of a gain that is held then needs the properties.
pub kept-held : (laws : Laws) (P : Receipt → Type 0) (Q : Distrust → Type 0) (place : ℕ) (A : Type 0) (b : Bool) (w : World) (i : ℕ) (gain : State)
    → IsKept P Q place A w
    → ((r : Receipt) → Contains gain.held r → Contains ((gained b w i (joined (w.now i) gain)).now i).held r → P r)
    → ((x : Distrust) → Contains gain.records x → Contains ((gained b w i (joined (w.now i) gain)).now i).records x → Q x)
    → IsKept P Q place A (gained b w i (joined (w.now i) gain))
kept-held laws P Q place A true w i gain h p q =
    let state = joined (w.now i) gain in
    kept-state P Q place A w i state h (record {
      receipts = λ r c. elim (laws.receipts.only gain.held (w.now i).held r c) [
        | inl a ↦ p r a (subst (λ (s : State). Contains s.held r) (sym (at-here i state w.now)) c)
        | inr b ↦ (h.now i).receipts r b
      ];
      records = λ x c. elim (laws.records.only gain.records (w.now i).records x c) [
        | inl a ↦ q x a (subst (λ (s : State). Contains s.records x) (sym (at-here i state w.now)) c)
        | inr b ↦ (h.now i).records x b
      ];
    })
kept-held laws P Q place A false w i gain h p q = h

-- It remains so when a replica gains what has the properties.
kept-gains : (laws : Laws) (P : Receipt → Type 0) (Q : Distrust
    → Type 0) (place : ℕ) (A : Type 0) (limits : ℕ → Limits) (w : World) (i : ℕ) (gain : State) → IsKept P Q place A w → Keeps P Q gain
    → IsKept P Q place A (apply limits w (gains i gain))
kept-gains laws P Q place A limits w i gain h g =
    kept-gained P Q place A (is_within_limits (limits i) (joined (w.now i) gain)) w i (joined (w.now i) gain) h
    (keeps-joined laws P Q (w.now i) gain (h.now i) g)

-- It remains so when a message is sent that has the properties.
kept-sends : (P : Receipt → Type 0) (Q : Distrust → Type 0) (place : ℕ) (A : Type 0) (limits : ℕ → Limits) (w : World) (message : Message)
    → IsKept P Q place A w → KeepsMessage P Q message → IsKept P Q place A (apply limits w (sends message))
kept-sends P Q place A limits w message h m = record {
  now = h.now;
  saved = h.saved;
  sent = λ n other l e. elim (get-cases w.sent message n other e) [ inl s ↦ h.sent n other l s | inr s ↦ subst (KeepsMessage P Q) (sym s.1) m ];
}

-- It remains so when a replica saves.
kept-saves : (P : Receipt → Type 0) (Q : Distrust → Type 0) (place : ℕ) (A : Type 0) (limits : ℕ → Limits) (w : World) (i : ℕ)
    → IsKept P Q place A w → IsKept P Q place A (apply limits w (saves i))
kept-saves P Q place A limits w i h = record {
  now = h.now;
  saved = λ a j. keeps-at P Q (j == i) (w.now i) (w.saved j) (h.now i) (h.saved a j);
  sent = h.sent;
}

-- It remains so if an effect depends on a test, and it does when the test passes.
pub kept-where : (P : Receipt → Type 0) (Q : Distrust → Type 0) (place : ℕ) (A : Type 0) (b : Bool) (limits : ℕ → Limits) (w : World)
    (effect : Effect) → IsKept P Q place A w → (b ≡ true → IsKept P Q place A (apply limits w effect))
    → IsKept P Q place A (apply limits w (where_so b effect))
kept-where P Q place A true limits w effect h g = g refl
kept-where P Q place A false limits w effect h g = h

-- It remains so when a replica answers.
kept-sends_give : (P : Receipt → Type 0) (Q : Distrust
    → Type 0) (place : ℕ) (A : Type 0) (limits : ℕ → Limits) (w : World) (state : State) (j k : ℕ) (message : Option Message)
    → IsKept P Q place A w → Keeps P Q state → IsKept P Q place A (apply limits w (sends_give state j k message))
kept-sends_give P Q place A limits w state j k None h s = h
kept-sends_give P Q place A limits w state j k (Some (have_sent asker bucket ids)) h s =
    kept-sends P Q place A limits w (give_sent j k (record { held = receipts_lacking state bucket ids; records = state.records })) h (record {
      receipts = λ r c. s.receipts r (filter-from (λ o. is_of_bucket bucket o && not (is_named ids o)) state.held r c).0;
      records = s.records;
    })
kept-sends_give P Q place A limits w state j k (Some (give_sent answerer other content)) h s = h
kept-sends_give P Q place A limits w state j k (Some (sums_sent asker)) h s = h
kept-sends_give P Q place A limits w state j k (Some (marks_sent answerer other)) h s = h

-- It remains so when a replica answers sums.
kept-sends_marks : (P : Receipt → Type 0) (Q : Distrust → Type 0) (place : ℕ) (A : Type 0) (limits : ℕ → Limits) (w : World) (j k : ℕ)
    (message : Option Message) → IsKept P Q place A w → IsKept P Q place A (apply limits w (sends_marks j k message))
kept-sends_marks P Q place A limits w j k None h = h
kept-sends_marks P Q place A limits w j k (Some (have_sent asker bucket ids)) h = h
kept-sends_marks P Q place A limits w j k (Some (give_sent answerer other content)) h = h
kept-sends_marks P Q place A limits w j k (Some (sums_sent asker)) h = kept-sends P Q place A limits w (marks_sent j k) h tt
kept-sends_marks P Q place A limits w j k (Some (marks_sent answerer other)) h = h

-- What is so of all that is held is so of it without the records.
pub keeps-without : (P : Receipt → Type 0) (Q : Distrust → Type 0) (state : State) → Keeps P Q state → Keeps P Q (without_records state)
keeps-without P Q state s = record { receipts = s.receipts; records = λ x c. absurd (contains-none x c) }

-- It remains so when a replica takes a whole answer that has the properties.
kept-whole : (laws : Laws) (P : Receipt → Type 0) (Q : Distrust
    → Type 0) (place : ℕ) (A : Type 0) (limits : ℕ → Limits) (w : World) (i : ℕ) (found : Option Message) → IsKept P Q place A w
    → ((message : Message) → found ≡ Some message → KeepsMessage P Q message)
    → IsKept P Q place A (apply limits w (takes_whole i found))
kept-whole laws P Q place A limits w i None h s = h
kept-whole laws P Q place A limits w i (Some (have_sent asker bucket ids)) h s = h
kept-whole laws P Q place A limits w i (Some (give_sent answerer other content)) h s =
    kept-gains laws P Q place A limits w i content h (s (give_sent answerer other content) refl)
kept-whole laws P Q place A limits w i (Some (sums_sent asker)) h s = h
kept-whole laws P Q place A limits w i (Some (marks_sent answerer other)) h s = h

-- It remains so when a replica takes part of an answer that has the properties.
kept-part : (laws : Laws) (P : Receipt → Type 0) (Q : Distrust
    → Type 0) (place : ℕ) (A : Type 0) (limits : ℕ → Limits) (w : World) (i m : ℕ) (found : Option Message) → IsKept P Q place A w
    → ((message : Message) → found ≡ Some message → KeepsMessage P Q message)
    → IsKept P Q place A (apply limits w (takes_part i m found))
kept-part laws P Q place A limits w i m None h s = h
kept-part laws P Q place A limits w i m (Some (have_sent asker bucket ids)) h s = h
kept-part laws P Q place A limits w i m (Some (give_sent answerer other content)) h s =
    kept-gains laws P Q place A limits w i (first_of m content) h (keeps-first P Q m content (s (give_sent answerer other content) refl))
kept-part laws P Q place A limits w i m (Some (sums_sent asker)) h s = h
kept-part laws P Q place A limits w i m (Some (marks_sent answerer other)) h s = h

-- A state of one receipt has the properties if the receipt has.
one-receipt : (P : Receipt → Type 0) (Q : Distrust → Type 0) (r : Receipt) → P r → Keeps P Q (record { held = r ∷ []; records = [] })
one-receipt P Q r p = record {
  receipts = λ s c. elim (contains-cases r [] s c) [ inl e ↦ subst P (sym e) p | inr d ↦ absurd (contains-none s d) ];
  records = λ x c. absurd (contains-none x c);
}

-- A state of one record has the properties if the record has.
one-record : (P : Receipt → Type 0) (Q : Distrust → Type 0) (x : Distrust) → Q x → Keeps P Q (record { held = []; records = x ∷ [] })
one-record P Q x q = record {
  receipts = λ r c. absurd (contains-none r c);
  records = λ y c. elim (contains-cases x [] y c) [ inl e ↦ subst Q (sym e) q | inr d ↦ absurd (contains-none y d) ];
}

-- It remains so over each event that is admitted.
pub kept-event : (laws : Laws) (P : Receipt → Type 0) (Q : Distrust
    → Type 0) (place : ℕ) (A : Type 0) (rules : Rules) (w : World) (event : Event) → IsKept P Q place A w
    → Admits rules P Q place A event → IsKept P Q place A (happens rules w event)
kept-event laws P Q place A rules w (Take i r) h a =
    kept-where P Q place A (is_replica rules i && rules.fits r) rules.limits w (gains i (record { held = r ∷ []; records = [] })) h
    (λ e. kept-gains laws P Q place A rules.limits w i (record { held = r ∷ []; records = [] }) h
    (one-receipt P Q r (a (and_parts (is_replica rules i) (rules.fits r) e).0
    (and_parts (is_replica rules i) (rules.fits r) e).1)))
kept-event laws P Q place A rules w (Revoke i x) h a =
    kept-where P Q place A (is_replica rules i && rules.knows x.domain) rules.limits w
    (gains i (record { held = []; records = x ∷ [] })) h
    (λ e. kept-gains laws P Q place A rules.limits w i (record { held = []; records = x ∷ [] }) h
    (one-record P Q x (a (and_parts (is_replica rules i) (rules.knows x.domain) e).0
    (and_parts (is_replica rules i) (rules.knows x.domain) e).1)))
kept-event laws P Q place A rules w (Ask i b) h a =
    kept-where P Q place A (is_replica rules i && nat_le b 255) rules.limits w (sends (have_sent i b (ids_named (w.now i) b))) h
    (λ e. kept-sends P Q place A rules.limits w (have_sent i b (ids_named (w.now i) b)) h tt)
kept-event laws P Q place A rules w (Answer j k) h a =
    kept-where P Q place A (is_replica rules j) rules.limits w (sends_give (w.now j) j k (slice_get w.sent k)) h
    (λ e. kept-sends_give P Q place A rules.limits w (w.now j) j k (slice_get w.sent k) h (h.now j))
kept-event laws P Q place A rules w (AnswerReceipts j k) h a =
    kept-where P Q place A (is_replica rules j) rules.limits w (sends_give (without_records (w.now j)) j k (slice_get w.sent k)) h
    (λ e. kept-sends_give P Q place A rules.limits w (without_records (w.now j)) j k (slice_get w.sent k) h (keeps-without P Q (w.now j) (h.now j)))
kept-event laws P Q place A rules w (AskSums i) h a =
    kept-where P Q place A (is_replica rules i) rules.limits w (sends (sums_sent i)) h (λ e. kept-sends P Q place A rules.limits w (sums_sent i) h tt)
kept-event laws P Q place A rules w (AnswerSums j k) h a =
    kept-where P Q place A (is_replica rules j) rules.limits w (sends_marks j k (slice_get w.sent k)) h
    (λ e. kept-sends_marks P Q place A rules.limits w j k (slice_get w.sent k) h)
kept-event laws P Q place A rules w (Absorb i k) h a =
    kept-where P Q place A (is_replica rules i) rules.limits w (takes_whole i (slice_get w.sent k)) h
    (λ e. kept-whole laws P Q place A rules.limits w i (slice_get w.sent k) h (λ m f. h.sent k m a f))
kept-event laws P Q place A rules w (Part i k m) h a =
    kept-where P Q place A (is_replica rules i) rules.limits w (takes_part i m (slice_get w.sent k)) h
    (λ e. kept-part laws P Q place A rules.limits w i m (slice_get w.sent k) h (λ o f. h.sent k o a f))
kept-event laws P Q place A rules w (Join i j) h a =
    kept-where P Q place A (is_replica rules i && is_replica rules j) rules.limits w (gains i (w.now j)) h
    (λ e. kept-gains laws P Q place A rules.limits w i (w.now j) h (h.now j))
kept-event laws P Q place A rules w (Save i) h a =
    kept-where P Q place A (is_replica rules i) rules.limits w (saves i) h (λ e. kept-saves P Q place A rules.limits w i h)
kept-event laws P Q place A rules w (Restart i) h a =
    kept-where P Q place A (is_replica rules i) rules.limits w (restarts i) h (λ e. kept-state P Q place A w i (w.saved i) h (h.saved a i))

-- So it remains so over each list of events that are admitted.
pub kept-run : (laws : Laws) (P : Receipt → Type 0) (Q : Distrust
    → Type 0) (place : ℕ) (A : Type 0) (rules : Rules) (events : List Event) (w : World) → IsKept P Q place A w
    → ((event : Event) → Contains events event → Admits rules P Q place A event)
    → IsKept P Q place A (run_from rules w events)
kept-run laws P Q place A rules [] w h a = h
kept-run laws P Q place A rules (event ∷ events) w h a =
    kept-run laws P Q place A rules events (happens rules w event)
    (kept-event laws P Q place A rules w event h (a event (contains-here event events)))
    (λ other c. a other (contains-later event events other c))
