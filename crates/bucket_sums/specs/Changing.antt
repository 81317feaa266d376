-- Sessions that begin with sums while what is held changes at both sides, too, also by other
-- sessions.
use Rattle.std.specs.Prelude.{◌≡◌, ◌<◌, ℕ, Bool, true, List, [], ◌∷◌, length, slice_index_or}
use Rattle.fed_config.specs.Configuration.{Configuration, config_id_of}
use Rattle.receipt_core.specs.Acceptance.{IsMeaning, Meaning}
use Rattle.replica_core.specs.Convergence.{Comparison, Exchange, ExchangeOf, IsPartOf, Peers, about}
use Rattle.replica_core.specs.Convergence.{after_marks}
use Rattle.replica_core.specs.Session.{state_of}
use Rattle.replica_core.specs.World.{Rules, World}
use Rattle.replica_core.specs.declared.event.Event.{Event}
use Rattle.replica_sync.specs.PulledPieces.{PulledPiece}
use Rattle.replica_sync.specs.ServedPieces.{Came}
use Rattle.bucket_sums.specs.Sessions.{buckets_asked}

-- ---- in a world of replicas

-- After the comparison the asker takes an answer about each bucket that is asked about. If the
-- records are marked, the answer about the first of these has them.
pub record AsksMarkedParts {p : Peers} {events : List Event} (rules : Rules) (start : World)
    (c : Comparison p events) (marks : List Bool) : Type 0 where
  pub first : slice_index_or marks 0 true ≡ true
      → Exchange rules (after_marks rules start c)
      (about p (slice_index_or (buckets_asked marks) 0 0)) c.after
  pub each : (place : ℕ) → place < length (buckets_asked marks)
      → (full : Bool) × ExchangeOf full rules (after_marks rules start c)
      (about p (slice_index_or (buckets_asked marks) place 0)) c.after

-- ---- between two machines

-- Before and after the piece a replica of the configuration holds this.
pub record IsOwnPiece (config : Configuration) (c : PulledPiece) : Type 0 where
  pub own : c.new.config ≡ config
  pub old : IsMeaning c.old
  pub new : IsMeaning c.new

-- What is held before the pieces is held when the first of them comes, what is held after each of
-- them when the next one comes, and what is held after the last one in the end: more may be.
abbrev pub OnlyGrows : Meaning → List PulledPiece → Meaning → Type 0
OnlyGrows before [] after = IsPartOf (state_of before) (state_of after)
OnlyGrows before (c ∷ came) after = IsPartOf (state_of before) (state_of c.old)
    × OnlyGrows c.new came after

-- When the piece comes, a replica of a configuration with the same digest holds no less than this.
pub record HoldsNoLess (config : Configuration) (least : Meaning) (c : Came) : Type 0 where
  pub own : config_id_of c.held.config ≡ config_id_of config
  pub means : IsMeaning c.held
  pub grown : IsPartOf (state_of least) (state_of c.held)
