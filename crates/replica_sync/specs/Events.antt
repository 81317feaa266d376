-- What happens in a world of replicas while one of them pulls from another.
use Rattle.std.specs.Prelude.{◌≡◌, ℕ, zero, suc, ◌+◌, ◌*◌, ◌<◌, List, [], ◌∷◌, ◌++◌, length}
use Rattle.replica_core.specs.State.{State}
use Rattle.replica_core.specs.World.{Rules, World, run_from}
use Rattle.replica_core.specs.declared.event.Event.{Event}
use Rattle.replica_core.specs.declared.event.Event.TheVariants.{Ask, Answer, Absorb, Part}

-- which replica pulls, and which one serves it
pub record Link : Type 0 where
  pub puller : ℕ
  pub server : ℕ

-- The puller asks the server about the bucket, the server answers, and the puller takes the answer;
-- this many messages were sent before.
abbrev pub whole_exchange : Link → ℕ → ℕ → List Event
whole_exchange link bucket sent =
    Ask link.puller bucket ∷ Answer link.server sent ∷ Absorb link.puller (sent + 1) ∷ []

-- The same, but the puller takes this many lines of the answer only.
abbrev pub cut_exchange : Link → ℕ → ℕ → ℕ → List Event
cut_exchange link bucket sent count =
    Ask link.puller bucket ∷ Answer link.server sent ∷ Part link.puller (sent + 1) count ∷ []

-- this about this many buckets, from this one on
unfoldable pub whole_exchanges : Link → ℕ → ℕ → ℕ → List Event
whole_exchanges link zero bucket sent = []
whole_exchanges link (suc more) bucket sent = whole_exchange link bucket sent
    ++ whole_exchanges link more (bucket + 1) (sent + 2)

-- The puller holds this after whole exchanges about the first buckets, and one about the next
-- bucket of whose answer it took this many lines.
pub record EndsCut (rules : Rules) (w : World) (link : Link) (state : State) : Type 0 where
  pub buckets : ℕ
  pub few : buckets < 256
  pub lines : ℕ
  pub holds : (run_from rules w
      (whole_exchanges link buckets 0 (length w.sent)
      ++ cut_exchange link buckets (length w.sent + 2 * buckets) lines)).now link.puller ≡ state
