-- A session that is served: which haves it answers, and what it writes to them.
use Rattle.std.specs.Prelude.{◌≡◌, ℕ, List, length, flat_map, Option, IfSome, Result, Ok}
use Rattle.std.specs.Prelude.{Err}
use Rattle.std.specs.List.{AllByRecursion}
use Rattle.std.specs.Io.KnownBytes.{Appends, Consumes}
use Rattle.fed_config.specs.Configuration.{Configuration}
use Rattle.receipt_core.specs.Acceptance.{Meaning}
use Rattle.replica_core.specs.Session.{HaveMessage, give_of}
use Rattle.replica_sync.specs.SessionRun.{SessionRun, IsWritten}
use Rattle.replica_texts.specs.Messages.{have_text, give_text}
use Rattle.replica_texts.specs.Haves.{IsHaveOf, RefusesFurther}
use Rattle.replica_core.specs.declared.error.SyncError.{SyncError}

-- The stream begins with these haves of the configuration, and `left` is what follows them.
pub record BeginsWithHaves (config : Configuration) (stream : Option (List ℕ))
    (haves : List HaveMessage) (left : Option (List ℕ)) : Type 0 where
  pub each : AllByRecursion (IsHaveOf config) haves
  pub text : Consumes stream left (flat_map have_text haves)

-- what is written to them
abbrev pub gives_text : Meaning → List HaveMessage → List ℕ
gives_text m haves = flat_map (λ q. give_text (give_of m q)) haves

-- All that the source has are these haves, all are answered, and this is their number.
pub record ServesAll (run : SessionRun) (m : Meaning) (count : ℕ) : Type 0 where
  pub haves : List HaveMessage
  pub each : AllByRecursion (IsHaveOf m.config) haves
  pub text : IfSome run.source (λ bytes. bytes ≡ flat_map have_text haves)
  pub number : count ≡ length haves
  pub written : Appends run.before run.after (gives_text m haves)

-- The haves before the error are answered, and nothing else is written.
pub record ServesUpTo (run : SessionRun) (m : Meaning) (e : SyncError) : Type 0 where
  pub haves : List HaveMessage
  pub left : Option (List ℕ)
  pub asks : BeginsWithHaves m.config run.source haves left
  pub cause : RefusesFurther m.config left e
  pub written : IsWritten e run.before run.after (gives_text m haves)

-- what a call that serves one session does
abbrev pub Serves : SessionRun → Meaning → Result ℕ SyncError → Type 0
Serves run m (Ok count) = ServesAll run m count
Serves run m (Err e) = ServesUpTo run m e
