-- Replicas of one configuration, each with limits of its own, what happens to them, and the
-- messages between them.
use Rattle.std.specs.Prelude.{ℕ, ◌+◌, Bool, true, false, cond, ◌==◌, ◌&&◌, nat_le, List, [], ◌∷◌}
use Rattle.std.specs.Prelude.{◌<◌, length, slice_index_or, ◌≡◌}
use Rattle.std.specs.Prelude.{◌++◌, fold, slice_get, Option, Some, None, bytes_eq}
use Rattle.std.specs.List.{list_any, list_all}
use Rattle.spiffe_name.specs.SpiffeId.{Id}
use Rattle.fed_config.specs.Configuration.{Configuration}
use Rattle.fed_config.specs.declared.floor.Floor.{Floor}
use Rattle.fed_config.specs.declared.limits.Limits.{Limits}
use Rattle.fed_config.specs.declared.relationship.Relationship.{Relationship}
use Rattle.fed_config.specs.declared.seed.Seed.{Seed}
use Rattle.receipt_core.specs.Receipt.{Receipt}
use Rattle.replica_core.specs.State.{State, no_state, joined, ids_named, limits_of}
use Rattle.replica_core.specs.State.{is_within_limits}
use Rattle.replica_core.specs.State.{meaning_of_state, receipts_lacking, first_of}
use Rattle.replica_core.specs.declared.event.Event.{Event}
use Rattle.replica_core.specs.declared.event.Event.TheVariants.{Take, Revoke, Ask, Answer, Absorb}
use Rattle.replica_core.specs.declared.event.Event.TheVariants.{Part, Join, Save, Restart}
use Rattle.replica_core.specs.declared.event.Event.TheVariants.{AnswerReceipts, AskSums, AnswerSums}
use Rattle.receipt_core.specs.Acceptance.{Meaning}
use Rattle.closure_core.specs.Alike.{with_limits}

-- A have names the ids that the asker holds of a bucket; an answer to it has the receipts of the
-- bucket that the answerer holds beyond those named, and all its records or none. Sums, and the
-- marks that answer them, have no content here: nothing that is held comes of them. A law says what
-- both held when they were made.
pub data Message : Type 0 where
  have_sent : (asker bucket : ℕ) (ids : List (List ℕ)) → Message
  give_sent : (answerer place : ℕ) (content : State) → Message
  sums_sent : (asker : ℕ) → Message
  marks_sent : (answerer place : ℕ) → Message

-- what each replica holds, what each saved last, and every message that was ever sent
pub record World : Type 0 where
  pub now : ℕ → State
  pub saved : ℕ → State
  pub sent : List Message

abbrev pub empty_world : World
empty_world = record { now = λ replica. no_state; saved = λ replica. no_state; sent = [] }

-- ---- the rules of a world

-- How many replicas there are, how much each may hold, and which receipts and which domains of
-- records all of them take.
pub record Rules : Type 0 where
  pub replicas : ℕ
  pub limits : ℕ → Limits
  pub fits : Receipt → Bool
  pub knows : List ℕ → Bool

abbrev pub same_id : Id → Id → Bool
same_id a b = bytes_eq a.text b.text && bytes_eq a.domain b.domain && bytes_eq a.path b.path

-- a document of this rank is not below this number
abbrev pub is_reached : ℕ → Option ℕ → Bool
is_reached sequence None = false
is_reached sequence (Some n) = nat_le sequence n

-- a relationship of the configuration has the receipt's domain and endpoint, and the document is
-- below no floor of the domain
abbrev pub is_fitting : Configuration → Receipt → Bool
is_fitting config r = list_any
    (λ (other : Relationship). bytes_eq other.domain r.domain && same_id other.endpoint r.endpoint)
    config.relationships
    && list_all (λ (f : Floor). cond (bytes_eq f.domain r.domain)
    (is_reached f.sequence r.document.rank) true) config.floors

-- the domain is one of the configuration
abbrev pub is_known : Configuration → List ℕ → Bool
is_known config domain = cond
    (list_any (λ (r : Relationship). bytes_eq r.domain domain) config.relationships) true
    (cond (list_any (λ (r : Relationship). bytes_eq r.endpoint.domain domain) config.relationships)
    true
    (list_any (λ (s : Seed). bytes_eq s.domain domain) config.seeds))

-- each replica has the configuration, but with limits of its own
abbrev pub rules_with : Configuration → (ℕ → Limits) → ℕ → Rules
rules_with config limits replicas = record {
  replicas = replicas;
  limits = λ replica. limits_of (with_limits config (limits replica));
  fits = is_fitting config;
  knows = is_known config;
}

-- all have the limits of the configuration
abbrev pub rules_of : Configuration → ℕ → Rules
rules_of config replicas = rules_with config (λ replica. config.limits) replicas

abbrev pub is_replica : Rules → ℕ → Bool
is_replica rules replica = nat_le (replica + 1) rules.replicas

-- ---- what an event does

pub data Effect : Type 0 where
  nothing : Effect
  gains : (replica : ℕ) (gain : State) → Effect
  sends : (message : Message) → Effect
  saves : (replica : ℕ) → Effect
  restarts : (replica : ℕ) → Effect

abbrev pub where_so : Bool → Effect → Effect
where_so true effect = effect
where_so false effect = nothing

-- what a replica answers from that leaves the records out
abbrev pub without_records : State → State
without_records state = record { held = state.held; records = [] }

abbrev pub sends_give : State → ℕ → ℕ → Option Message → Effect
sends_give state replica place None = nothing
sends_give state replica place (Some (have_sent asker bucket ids)) = sends
    (give_sent replica place (record
    { held = receipts_lacking state bucket ids; records = state.records }))
sends_give state replica place (Some (give_sent answerer other content)) = nothing
sends_give state replica place (Some (sums_sent asker)) = nothing
sends_give state replica place (Some (marks_sent answerer other)) = nothing

abbrev pub sends_marks : ℕ → ℕ → Option Message → Effect
sends_marks replica place None = nothing
sends_marks replica place (Some (have_sent asker bucket ids)) = nothing
sends_marks replica place (Some (give_sent answerer other content)) = nothing
sends_marks replica place (Some (sums_sent asker)) = sends (marks_sent replica place)
sends_marks replica place (Some (marks_sent answerer other)) = nothing

abbrev pub takes_whole : ℕ → Option Message → Effect
takes_whole replica None = nothing
takes_whole replica (Some (have_sent asker bucket ids)) = nothing
takes_whole replica (Some (give_sent answerer place content)) = gains replica content
takes_whole replica (Some (sums_sent asker)) = nothing
takes_whole replica (Some (marks_sent answerer place)) = nothing

abbrev pub takes_part : ℕ → ℕ → Option Message → Effect
takes_part replica count None = nothing
takes_part replica count (Some (have_sent asker bucket ids)) = nothing
takes_part replica count (Some (give_sent answerer place content)) = gains replica
    (first_of count content)
takes_part replica count (Some (sums_sent asker)) = nothing
takes_part replica count (Some (marks_sent answerer place)) = nothing

-- Messages count from 0. Nothing happens if what an event names is not there, or is a message of
-- another kind.
abbrev pub effect_of : Rules → World → Event → Effect
effect_of rules w (Take i r) = where_so (is_replica rules i && rules.fits r)
    (gains i (record { held = r ∷ []; records = [] }))
effect_of rules w (Revoke i x) = where_so (is_replica rules i && rules.knows x.domain)
    (gains i (record { held = []; records = x ∷ [] }))
effect_of rules w (Ask i b) = where_so (is_replica rules i && nat_le b 255)
    (sends (have_sent i b (ids_named (w.now i) b)))
effect_of rules w (Answer j k) = where_so (is_replica rules j)
    (sends_give (w.now j) j k (slice_get w.sent k))
effect_of rules w (AnswerReceipts j k) = where_so (is_replica rules j)
    (sends_give (without_records (w.now j)) j k (slice_get w.sent k))
effect_of rules w (AskSums i) = where_so (is_replica rules i) (sends (sums_sent i))
effect_of rules w (AnswerSums j k) = where_so (is_replica rules j)
    (sends_marks j k (slice_get w.sent k))
effect_of rules w (Absorb i k) = where_so (is_replica rules i) (takes_whole i (slice_get w.sent k))
effect_of rules w (Part i k m) = where_so (is_replica rules i) (takes_part i m (slice_get w.sent k))
effect_of rules w (Join i j) = where_so (is_replica rules i && is_replica rules j)
    (gains i (w.now j))
effect_of rules w (Save i) = where_so (is_replica rules i) (saves i)
effect_of rules w (Restart i) = where_so (is_replica rules i) (restarts i)

abbrev pub at_replica : ℕ → State → (ℕ → State) → ℕ → State
at_replica replica state states other = cond (other == replica) state (states other)

abbrev pub with_state : World → ℕ → State → World
with_state w replica state = record w { now = at_replica replica state w.now }

-- a replica that would then hold too much gains nothing
abbrev pub gained : Bool → World → ℕ → State → World
gained true w replica state = with_state w replica state
gained false w replica state = w

abbrev pub apply : (ℕ → Limits) → World → Effect → World
apply limits w nothing = w
apply limits w (gains i gain) = gained (is_within_limits (limits i) (joined (w.now i) gain)) w i
    (joined (w.now i) gain)
apply limits w (sends message) = record w { sent = w.sent ++ message ∷ [] }
apply limits w (saves i) = record w { saved = at_replica i (w.now i) w.saved }
apply limits w (restarts i) = with_state w i (w.saved i)

abbrev pub happens : Rules → World → Event → World
happens rules w event = apply rules.limits w (effect_of rules w event)

abbrev pub run_from : Rules → World → List Event → World
run_from rules w events = fold (happens rules) w events

abbrev pub run : Rules → List Event → World
run rules events = run_from rules empty_world events

-- ---- what happened to replicas of one configuration

-- each replica has limits of its own
pub record WorldRun : Type 0 where
  pub config : Configuration
  pub limits : ℕ → Limits
  pub replicas : ℕ
  pub events : List Event

abbrev pub rules_in : WorldRun → Rules
rules_in past = rules_with past.config past.limits past.replicas

-- a replica's configuration, with its limits
abbrev pub config_in : WorldRun → ℕ → Configuration
config_in past replica = with_limits past.config (past.limits replica)

abbrev pub world_after : WorldRun → World
world_after past = run (rules_in past) past.events

-- what a replica holds then, and what it saved last
abbrev pub held_by : WorldRun → ℕ → State
held_by past replica = (world_after past).now replica

abbrev pub saved_by : WorldRun → ℕ → State
saved_by past replica = (world_after past).saved replica

-- what its closure means
abbrev pub meant_by : WorldRun → ℕ → Meaning
meant_by past replica = meaning_of_state (config_in past replica) (held_by past replica)

-- these happened after those
abbrev pub followed_by : WorldRun → List Event → WorldRun
followed_by past since = record past { events = past.events ++ since }

-- ---- closures in memory

-- the closure means a replica of the configuration that holds what the state says
abbrev pub MeansState : {A : Type 0} → (A → Meaning) → Configuration → A → State → Type 0
MeansState meaning config c state = meaning c ≡ meaning_of_state config state

-- There are this many closures, and each means what the state of its number says.
pub record AreOf {A : Type 0} (Means : A → State → Type 0) (n : ℕ) (closures : List A)
    (states : ℕ → State) : Type 0 where
  pub count : length closures ≡ n
  pub each : (i : ℕ) (c : A) → i < n → Means (slice_index_or closures i c) (states i)
