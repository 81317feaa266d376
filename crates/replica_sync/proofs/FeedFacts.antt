-- Pieces without a line feed.
use Rattle.std.proofs.Common.{◌≡◌, ◌≢◌, ℕ, inl, inr, List, [], length, take, subst, length-take, arith}
use Rattle.std.proofs.lemmas.List.Elements.{All-take}
use Rattle.receipt_core.specs.Acceptance.{Meaning}
use Rattle.byte_lines.specs.Lines.{HasNoFeed}
use Rattle.replica_sync.specs.Inside.ServingSteps.{TakesHave}
use Rattle.replica_sync.proofs.FeedSearch.{ends_plain}
use Rattle.replica_sync.proofs.PullStepFacts.{feed_last}

-- A piece without a line feed is taken whole, and is not answered.
pub all_taken : (m : Meaning) (old piece : List ℕ) (used : ℕ) (new answer : List ℕ) → TakesHave m old piece used new answer → HasNoFeed piece
    → (used ≡ length piece) × (answer ≡ [])
all_taken m old piece used new answer (inl goes) plain = (goes.all, goes.none)
all_taken m old piece used new answer (inr ends) plain =
    let some = ends.ends.some in
    let within = ends.ends.within in
    let size = length-take used piece in
    let last = feed_last old (take used piece) _ (omega (arith, some, within, size)) ends.ends.parts in
    absurd (ends_plain last.0 (subst HasNoFeed last.1 (All-take (λ b. b ≢ 10) used piece plain)))
