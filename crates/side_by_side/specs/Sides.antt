-- Two configurations, what is held under each, and which of them a digest names.
use Rattle.std.specs.Prelude.{◌≡◌, ℕ, List, [], Option, Some, None}
use Rattle.fed_config.specs.Configuration.{config_id_of}
use Rattle.receipt_core.specs.Acceptance.{Meaning}
use Rattle.replica_texts.specs.Snapshots.{held_lines}
use Rattle.side_by_side.specs.declared.offer_counts.Offered.{Offered}
use Rattle.side_by_side.specs.declared.sides.Side.{Side}
use Rattle.side_by_side.specs.declared.sides.Side.TheVariants.{Next, Previous}
use Rattle.side_by_side.specs.Offering.{HasOffered, HasOfferedPart, as_kept, none_offered}
use Rattle.side_by_side.specs.Promise.{AddsFitting, AddsOnlyFitting, LinesSay}

-- what is held on each side
pub record SidePair : Type 0 where
  pub next : Meaning
  pub previous : Option Meaning

-- what closures mean, if there are any
abbrev pub meanings : {A : Type 0} → (A → Meaning) → Option A → Option Meaning
meanings meaning None = None
meanings meaning (Some c) = Some (meaning c)

abbrev pub sides_held : {A : Type 0} → (A → Meaning) → A → Option A → SidePair
sides_held meaning next previous =
    record { next = meaning next; previous = meanings meaning previous }

-- what is held on this side, if there is one
abbrev pub side_meaning : SidePair → Side → Option Meaning
side_meaning pair Next = Some pair.next
side_meaning pair Previous = pair.previous

-- ---- digests

-- It is held under the configuration with this digest.
abbrev pub HasDigest : Meaning → List ℕ → Type 0
HasDigest m digest = config_id_of m.config ≡ digest

-- There is a side, and its configuration has this digest.
abbrev pub IsSideWith : Option Meaning → List ℕ → Type 0
IsSideWith None digest = ⊥
IsSideWith (Some m) digest = HasDigest m digest

-- The digest is that of this side, or of none. If both sides have it, it names the next one.
abbrev pub NamesSide : SidePair → List ℕ → Option Side → Type 0
NamesSide pair digest (Some Next) = HasDigest pair.next digest
NamesSide pair digest (Some Previous) = (HasDigest pair.next digest → ⊥)
    × IsSideWith pair.previous digest
NamesSide pair digest None = (HasDigest pair.next digest → ⊥)
    × (IsSideWith pair.previous digest → ⊥)

-- This is what is held on the side that the digest names, and only that.
pub record IsUnder (pair : SidePair) (digest : List ℕ) (m : Meaning) : Type 0 where
  pub side : Side
  pub named : NamesSide pair digest (Some side)
  pub held : side_meaning pair side ≡ Some m
  pub digest_is : HasDigest m digest

-- ---- what one side took, offered to the other

-- the lines of what is held, if there is such a side
abbrev pub lines_in : Option Meaning → List (List ℕ)
lines_in None = []
lines_in (Some m) = held_lines m

-- both sides, and the journal of the other side, before and after these lines
pub record Passing : Type 0 where
  pub old : SidePair
  pub before : List ℕ
  pub texts : List (List ℕ)
  pub new : SidePair
  pub after : List ℕ

-- The lines were offered to a side, if it is there.
abbrev pub IsOfferedTo : Option Meaning → List ℕ → List (List ℕ) → Option Meaning → List ℕ
    → Offered → Type 0
IsOfferedTo None before texts None after offered = (after ≡ before) × (offered ≡ none_offered)
IsOfferedTo None before texts (Some new) after offered = ⊥
IsOfferedTo (Some old) before texts None after offered = ⊥
IsOfferedTo (Some old) before texts (Some new) after offered =
    HasOffered (as_kept old before) texts (as_kept new after) offered
    × AddsFitting old (LinesSay texts) new

-- The first of them were offered to it.
abbrev pub IsOfferedPart : Option Meaning → List ℕ → List (List ℕ) → Option Meaning → List ℕ
    → Type 0
IsOfferedPart None before texts new after = ⊥
IsOfferedPart (Some old) before texts None after = ⊥
IsOfferedPart (Some old) before texts (Some new) after =
    HasOfferedPart (as_kept old before) texts (as_kept new after)
    × AddsOnlyFitting old (LinesSay texts) new

-- The other side was offered these lines of this side, and this side is as it was.
abbrev pub PassesToOther : Side → Passing → Offered → Type 0
PassesToOther Next p offered = (p.new.next ≡ p.old.next)
    × IsOfferedTo p.old.previous p.before p.texts p.new.previous p.after offered
PassesToOther Previous p offered = (p.new.previous ≡ p.old.previous)
    × IsOfferedTo (Some p.old.next) p.before p.texts (Some p.new.next) p.after offered

abbrev pub PassesPartToOther : Side → Passing → Type 0
PassesPartToOther Next p = (p.new.next ≡ p.old.next)
    × IsOfferedPart p.old.previous p.before p.texts p.new.previous p.after
PassesPartToOther Previous p = (p.new.previous ≡ p.old.previous)
    × IsOfferedPart (Some p.old.next) p.before p.texts (Some p.new.next) p.after
