-- A stream begins with one have at most, and one that begins with a have has no error there.
use Rattle.std.proofs.Common.{◌≡◌, ◌≢◌, ℕ, inl, inr, List, ◌++◌, Option, None, Some, refl, ap, ◌∙◌, subst, arith}
use Rattle.std.specs.Io.KnownBytes.{Consumes}
use Rattle.fed_config.specs.Configuration.{Configuration}
use Rattle.byte_lines.specs.Lines.{HasNoFeed}
use Rattle.replica_core.specs.Session.{HaveMessage}
use Rattle.replica_texts.specs.Snapshots.{ended}
use Rattle.replica_core.specs.declared.error.SyncError.{SyncError}
use Rattle.replica_core.specs.declared.error.SyncError.TheVariants.{BadHeader, ConfigDiffers, VersionDiffers, NotCanonical, NotRising, BadCount, Truncated}
use Rattle.replica_core.specs.declared.error.SyncError.TheVariants.{Refused, Io, NoMemory}
use Rattle.replica_texts.specs.Messages.{AnyHave, as_any_have, any_have_text, have_text}
use Rattle.replica_texts.specs.FirstLines.{HasBadFirstLine, IsAnyHaveLine, HasOtherDigest, HasDigestOf, RefusesHaveLine, RefusesFirstLine}
use Rattle.replica_texts.specs.Haves.{IsAskable, RefusesHave}
use Rattle.replica_texts.proofs.FeedlessFacts.{is-first, no-first, plain-asked, same-line}
use Rattle.replica_texts.proofs.FirstLineFacts.{one-asked}

-- ---- one have

-- The text of a have that a line can ask is the line of that have.
asked-line : (q : HaveMessage) → IsAskable q → IsAnyHaveLine (any_have_text (as_any_have q)) (as_any_have q)
asked-line q is = record { is = is.asked; spelt = refl }

-- Both are one have, and the same follows them.
pub record IsSameHave (p q : HaveMessage) (left rest : List ℕ) : Type 0 where
  pub have : p ≡ q
  pub follows : left ≡ rest

-- A stream of known bytes begins with one have at most, and one thing follows it.
pub same-have : (bytes : List ℕ) (p q : HaveMessage) (left rest : List ℕ) → IsAskable p → IsAskable q
    → bytes ≡ have_text p ++ left → bytes ≡ have_text q ++ rest → IsSameHave p q left rest
same-have bytes p q left rest is valid e f =
    let line = same-line bytes (any_have_text (as_any_have p)) (any_have_text (as_any_have q)) left rest
    (plain-asked (as_any_have p) is.asked) (plain-asked (as_any_have q) valid.asked) e f in
    let asked : as_any_have p ≡ as_any_have q =
    one-asked (any_have_text (as_any_have p)) (as_any_have p) (as_any_have q) (asked-line p is)
    (record { is = valid.asked; spelt = line.line }) in
    record { have = ap (λ (a : AnyHave). a.have) asked; follows = line.rest }

-- The clause `one` of the law on haves: a stream begins with one have at most.
pub one-have : (bytes : List ℕ) (p q : HaveMessage) (left rest : Option (List ℕ)) → IsAskable p → IsAskable q
    → Consumes (Some bytes) left (have_text p) → Consumes (Some bytes) rest (have_text q)
    → (p ≡ q) × (left ≡ rest)
one-have bytes p q None rest is valid e f = absurd e
one-have bytes p q (Some left) None is valid e f = absurd f
one-have bytes p q (Some left) (Some rest) is valid e f =
    let same = same-have bytes p q left rest is valid e f in
    (same.have, ap Some same.follows)

-- ---- no error

-- An error of the first line is one of the line with which the stream begins.
pub first-cause : (refuses : List ℕ → SyncError → Type 0) (bytes text after : List ℕ) (new : Option (List ℕ))
    (e : SyncError) → HasNoFeed text → bytes ≡ ended text ++ after → HasBadFirstLine refuses (Some bytes) new e → RefusesFirstLine refuses text e
first-cause refuses bytes text after new e plain is h =
    subst (λ t. RefusesFirstLine refuses t e) (is-first bytes text after h.text new plain is h.is).0 h.cause

-- A digest that is the configuration's is not another one's.
pub no-other : (config : Option Configuration) (digest other : List ℕ) → HasDigestOf config digest → other ≡ digest → HasOtherDigest config other → ⊥
no-other None digest other own e h = h
no-other (Some config) digest other own e h = h (e ∙ own)

-- The line of a have of this configuration has no error.
no-bad-have : (config : Option Configuration) (q : HaveMessage) (e : SyncError) → IsAskable q → HasDigestOf config q.config → e ≢ NoMemory
    → RefusesFirstLine (RefusesHaveLine config) (any_have_text (as_any_have q)) e → ⊥
no-bad-have config q e is own ample (inl long) = let more = long.1 in let short = is.short in omega (arith, more, short)
no-bad-have config q BadHeader is own ample (inr none) = none.1 (as_any_have q) (asked-line q is)
no-bad-have config q ConfigDiffers is own ample (inr h) =
    let same = one-asked (any_have_text (as_any_have q)) h.1.asked (as_any_have q) h.1.line (asked-line q is) in
    no-other config q.config h.1.asked.have.config own (ap (λ (a : AnyHave). a.have.config) same) h.1.other
no-bad-have config q VersionDiffers is own ample (inr h) =
    let same = one-asked (any_have_text (as_any_have q)) h.1.asked (as_any_have q) h.1.line (asked-line q is) in
    h.1.unsupported (ap (λ (a : AnyHave). a.format) same, ap (λ (a : AnyHave). a.buckets) same)
no-bad-have config q (NotCanonical n) is own ample (inr h) = h.1
no-bad-have config q (NotRising n) is own ample (inr h) = h.1
no-bad-have config q BadCount is own ample (inr h) = h.1
no-bad-have config q Truncated is own ample (inr h) = h.1
no-bad-have config q (Refused n why) is own ample (inr h) = h.1
no-bad-have config q Io is own ample (inr h) = h.1
no-bad-have config q NoMemory is own ample (inr h) = ample refl

module _ (config : Option Configuration) (bytes : List ℕ) (q : HaveMessage) (left : List ℕ) (is : IsAskable q)
    (own : HasDigestOf config q.config) (begins : bytes ≡ have_text q ++ left) where
  -- A stream that begins with such a have has no error of its first line.
  bad-first : (new : Option (List ℕ)) (e : SyncError) → e ≢ NoMemory → HasBadFirstLine (RefusesHaveLine config) (Some bytes) new e → ⊥
  bad-first new e ample h =
      no-bad-have config q e is own ample
      (first-cause (RefusesHaveLine config) bytes (any_have_text (as_any_have q)) left new e
      (plain-asked (as_any_have q) is.asked) begins h)

  -- That have is read, unless the source or memory fails.
  pub no-have-fault : (new : Option (List ℕ)) (e : SyncError) → e ≢ Io → e ≢ NoMemory → RefusesHave config (Some bytes) new e → ⊥
  no-have-fault new BadHeader calm ample h = bad-first new BadHeader ample h
  no-have-fault new ConfigDiffers calm ample h = bad-first new ConfigDiffers ample h
  no-have-fault new VersionDiffers calm ample h = bad-first new VersionDiffers ample h
  no-have-fault new (NotCanonical n) calm ample h = h
  no-have-fault new (NotRising n) calm ample h = h
  no-have-fault new BadCount calm ample h = h
  no-have-fault new Truncated calm ample h = no-first bytes (any_have_text (as_any_have q)) left (plain-asked (as_any_have q) is.asked) begins h
  no-have-fault new (Refused n why) calm ample h = h
  no-have-fault new Io calm ample h = calm refl
  no-have-fault new NoMemory calm ample h = ample refl

-- The clause `read` of the law on haves: a stream that begins with a have has no error there.
pub have-read : (config : Option Configuration) (bytes : List ℕ) (q : HaveMessage) (left new : Option (List ℕ))
    (e : SyncError) → IsAskable q → HasDigestOf config q.config → e ≢ Io → e ≢ NoMemory
    → Consumes (Some bytes) left (have_text q) → RefusesHave config (Some bytes) new e → ⊥
have-read config bytes q None new e is own calm ample begins h = begins
have-read config bytes q (Some left) new e is own calm ample begins h = no-have-fault config bytes q left is own begins new e calm ample h
