-- How the haves of a session are answered, one by one.
use Rattle.std.specs.Prelude.{◌≡◌, ℕ, ◌<◌, ◌⊎◌, List, length, Option}
use Rattle.std.specs.Io.KnownBytes.{Appends, Consumes}
use Rattle.receipt_core.specs.Acceptance.{Meaning}
use Rattle.replica_core.specs.Session.{HaveMessage, give_of}
use Rattle.replica_texts.specs.Messages.{have_text, give_text}
use Rattle.replica_texts.specs.Haves.{IsHaveOf}
use Rattle.replica_sync.specs.Serving.{BeginsWithHaves, gives_text}

-- The next have was read, and answered.
pub record ServesOne (m : Meaning) (stream left old new : Option (List ℕ)) : Type 0 where
  pub have : HaveMessage
  pub own : IsHaveOf m.config have
  pub text : Consumes stream left (have_text have)
  pub written : Appends old new (give_text (give_of m have))

-- This many haves were read and answered.
pub record Served (m : Meaning) (stream left old new : Option (List ℕ)) (count : ℕ) : Type 0 where
  pub haves : List HaveMessage
  pub asks : BeginsWithHaves m.config stream haves left
  pub number : count ≡ length haves
  pub written : Appends old new (gives_text m haves)

-- how many answers are to be written: one or none
abbrev pub IsAnswerCount : List ℕ → ℕ → Type 0
IsAnswerCount due count = ((length due ≡ 0) × (count ≡ 0)) ⊎ ((0 < length due) × (count ≡ 1))
