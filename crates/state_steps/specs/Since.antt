-- What was appended to a journal since a fold began.
use Rattle.std.specs.Prelude.{◌≡◌, ◌≢◌, ℕ, List, [], MatchOption}
use Rattle.state_steps.specs.declared.since.Since.{Since}

-- These bytes came: they are the text that is held; or the text was forgotten, and some came.
abbrev pub CameSince : Since → List ℕ → Type 0
CameSince since came = MatchOption since.text (came ≢ []) (λ text. text.items ≡ came)
