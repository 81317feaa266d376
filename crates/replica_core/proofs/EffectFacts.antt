-- What an event brings.
use Rattle.std.proofs.Common.{◌≡◌, ℕ, ◌<◌, [], ◌∷◌, ap, ◌∙◌}
use Rattle.std.specs.Prelude.{slice_get}
use Rattle.std.proofs.lemmas.Bool.{and_from}
use Rattle.std.proofs.lemmas.List.Sums.{fold-append}
use Rattle.fed_config.specs.Configuration.{HasDomain}
use Rattle.receipt_core.specs.declared.distrust.Distrust.{Distrust}
use Rattle.receipt_core.specs.Receipt.{Receipt}
use Rattle.receipt_core.specs.Acceptance.{IsFitting}
use Rattle.replica_core.specs.State.{State, joined, first_of}
use Rattle.replica_core.specs.World.{World, empty_world, gains, where_so, takes_whole, takes_part, effect_of, gained, apply, happens, is_replica}
use Rattle.replica_core.specs.World.{WorldRun, rules_in, world_after, held_by}
use Rattle.replica_core.specs.Convergence.{Gains, HasGive, only_receipt, only_record}
use Rattle.replica_core.specs.declared.event.Event.{Event}
use Rattle.replica_core.specs.declared.event.Event.TheVariants.{Take, Revoke, Absorb, Part, Join}
use Rattle.replica_core.proofs.EventFacts.{at-here, replica-true}
use Rattle.replica_core.proofs.GrownFacts.{fits-to, knows-to}

-- an event with the effect of a gain brings it
gains-held : (past : WorldRun) (event : Event) (i : ℕ) (gain : State) → effect_of (rules_in past) (world_after past) event ≡ gains i gain
    → Gains past event i gain
gains-held past event i gain e t =
    let w = world_after past in
    ap (λ (v : World). v.now i) (fold-append (happens (rules_in past)) empty_world past.events (event ∷ []))
    ∙ ap (λ f. (apply (rules_in past).limits w f).now i) e
    ∙ ap (λ b. (gained b w i (joined (w.now i) gain)).now i) t
    ∙ at-here i (joined (w.now i) gain) w.now

-- A receipt that fits is gained by the replica that takes it.
pub takes-held : (past : WorldRun) (i : ℕ) (r : Receipt) → i < past.replicas → IsFitting past.config r → Gains past (Take i r) i (only_receipt r)
takes-held past i r l fits =
    let rules = rules_in past in
    gains-held past (Take i r) i (only_receipt r)
    (ap (λ b. where_so b (gains i (only_receipt r)))
    (and_from (is_replica rules i) (rules.fits r) (replica-true rules i l) (fits-to past.config r fits)))

-- A record of a domain of the configuration is gained by the replica that distrusts the key.
pub revokes-held : (past : WorldRun) (i : ℕ) (x : Distrust) → i < past.replicas → HasDomain past.config x.domain → Gains past (Revoke i x) i (only_record x)
revokes-held past i x l known =
    let rules = rules_in past in
    gains-held past (Revoke i x) i (only_record x)
    (ap (λ b. where_so b (gains i (only_record x)))
    (and_from (is_replica rules i) (rules.knows x.domain) (replica-true rules i l) (knows-to past.config x.domain known)))

-- What an answer has is gained by the replica that absorbs it.
pub absorbs-held : (past : WorldRun) (i place : ℕ) (content : State) → i < past.replicas → HasGive past place content
    → Gains past (Absorb i place) i content
absorbs-held past i place content l sent =
    gains-held past (Absorb i place) i content
    (ap (λ b. where_so b (takes_whole i (slice_get (world_after past).sent place))) (replica-true (rules_in past) i l)
    ∙ ap (takes_whole i) sent.2)

-- The first lines of an answer are gained by the replica that takes these.
pub parts-held : (past : WorldRun) (i place count : ℕ) (content : State) → i < past.replicas → HasGive past place content
    → Gains past (Part i place count) i (first_of count content)
parts-held past i place count content l sent =
    gains-held past (Part i place count) i (first_of count content)
    (ap (λ b. where_so b (takes_part i count (slice_get (world_after past).sent place))) (replica-true (rules_in past) i l)
    ∙ ap (takes_part i count) sent.2)

-- What another replica holds is gained by the replica that joins it.
pub joins-held : (past : WorldRun) (i j : ℕ) → i < past.replicas → j < past.replicas → Gains past (Join i j) i (held_by past j)
joins-held past i j l m =
    let rules = rules_in past in
    gains-held past (Join i j) i (held_by past j)
    (ap (λ b. where_so b (gains i (held_by past j))) (and_from (is_replica rules i) (is_replica rules j) (replica-true rules i l) (replica-true rules j m)))
