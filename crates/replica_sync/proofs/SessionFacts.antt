-- A session's stream is read to its end, or has an error, and never both.
use Rattle.std.proofs.Common.{◌≡◌, ◌≢◌, ℕ, ◌+◌, ◌<◌, inl, inr, List, [], ◌∷◌, ◌++◌, length, length-append, Option, None, ◌⊎◌}
use Rattle.std.proofs.Common.{Some, refl, ap, sym, ◌∙◌, subst, arith, append_assoc}
use Rattle.std.specs.Prelude.{IfSome}
use Rattle.std.specs.Io.KnownBytes.{Consumes}
use Rattle.std.specs.List.{AllByRecursion, flat_map}
use Rattle.fed_config.specs.Configuration.{Configuration, IsConfiguration}
use Rattle.receipt_core.specs.Acceptance.{Meaning, IsMeaning}
use Rattle.byte_lines.specs.Lines.{HasLine}
use Rattle.closure_core.specs.declared.error.TakeError.{TakeError}
use Rattle.closure_core.specs.declared.error.TakeError.TheVariants.{NoMemory as NoTakeMemory}
use Rattle.replica_core.specs.State.{State, joined, meaning_of_state}
use Rattle.replica_core.specs.Session.{HaveMessage, GiveMessage, state_of}
use Rattle.replica_sync.specs.SessionRun.{ReadSame, SessionRun}
use Rattle.replica_texts.specs.Snapshots.{ended, last_of}
use Rattle.replica_texts.specs.declared.entry_line.Wanted.{Wanted}
use Rattle.replica_core.specs.declared.error.SyncError.{SyncError}
use Rattle.replica_core.specs.declared.error.SyncError.TheVariants.{BadHeader, ConfigDiffers, VersionDiffers, NotCanonical, NotRising, BadCount, Truncated}
use Rattle.replica_core.specs.declared.error.SyncError.TheVariants.{Refused, Io, NoMemory}
use Rattle.replica_texts.specs.Messages.{as_any_have, any_have_text, have_text, give_text}
use Rattle.replica_texts.specs.Haves.{IsHaveOf, RefusesFurther, RefusesHave}
use Rattle.replica_sync.specs.Serving.{ServesAll, ServesUpTo}
use Rattle.replica_texts.specs.Entries.{IsRefused}
use Rattle.replica_texts.specs.Gives.{IsContent, content_lines}
use Rattle.replica_sync.specs.Pulling.{AreGives, IsGiveAbout, PullsAll, PullsUpTo, RefusesGiveAbout, after_gives, line_count, refused_line}
use Rattle.replica_texts.proofs.OneHaveFacts.{no-have-fault, same-have}
use Rattle.replica_texts.proofs.GatherFacts.{short-entry}
use Rattle.replica_texts.proofs.GiveFacts.{IsGood, no-fault-after, no-head-fault, same-give}
use Rattle.replica_sync.proofs.WelcomeFacts.{IsRisingState, meaning-within, none-refused, rising-joined, rising-meaning, within-after}

-- ---- haves

-- The empty stream begins with no line.
no-line : (text rest : List ℕ) → [] ≡ ended text ++ rest → ⊥
no-line text rest e =
    let none = ap length e in
    let both = length-append (ended text) rest in
    let feed = length-append text (10 ∷ []) in
    omega (arith, none, both, feed)

-- The empty stream has no first line.
no-first-line : (new : Option (List ℕ)) (text : List ℕ) → HasLine (Some []) new text → ⊥
no-first-line None text is = is.1
no-first-line (Some rest) text is = no-line text rest is.1

-- The end of a stream is not an error.
no-fault-at-end : (config : Configuration) (e : SyncError) → e ≢ Io → e ≢ NoMemory → RefusesFurther config (Some []) e → ⊥
no-fault-at-end config BadHeader calm ample h = no-first-line h.0 h.1.text h.1.is
no-fault-at-end config ConfigDiffers calm ample h = no-first-line h.0 h.1.text h.1.is
no-fault-at-end config VersionDiffers calm ample h = no-first-line h.0 h.1.text h.1.is
no-fault-at-end config (NotCanonical n) calm ample h = h
no-fault-at-end config (NotRising n) calm ample h = h
no-fault-at-end config BadCount calm ample h = h
no-fault-at-end config Truncated calm ample h = let more = h.1 in omega (arith, more)
no-fault-at-end config (Refused n why) calm ample h = h
no-fault-at-end config Io calm ample h = calm refl
no-fault-at-end config NoMemory calm ample h = ample refl

-- The next have is not answered for the causes for which a single one is not read.
as-have : (config : Configuration) (left : Option (List ℕ)) (e : SyncError) → RefusesFurther config left e
    → (new : Option (List ℕ)) × RefusesHave (Some config) left new e
as-have config left BadHeader h = h
as-have config left ConfigDiffers h = h
as-have config left VersionDiffers h = h
as-have config left (NotCanonical n) h = (None, h)
as-have config left (NotRising n) h = (None, h)
as-have config left BadCount h = (None, h)
as-have config left Truncated h = (None, h.0)
as-have config left (Refused n why) h = (None, h)
as-have config left Io h = (None, tt)
as-have config left NoMemory h = (None, tt)

-- the texts of the haves, one after another
abbrev any_have_texts : List HaveMessage → List ℕ
any_have_texts haves = flat_map have_text haves

-- In a stream of haves no error comes after some of them.
no-fault-of-asked : (config : Configuration) (haves others : List HaveMessage) (left : List ℕ) (e : SyncError)
    → AllByRecursion (IsHaveOf config) haves → AllByRecursion (IsHaveOf config) others
    → any_have_texts haves ≡ any_have_texts others ++ left → e ≢ Io → e ≢ NoMemory → RefusesFurther config (Some left) e → ⊥
no-fault-of-asked config [] [] left e is valid w calm ample h =
    no-fault-at-end config e calm ample (subst (λ (t : List ℕ). RefusesFurther config (Some t) e) (sym w) h)
no-fault-of-asked config [] (o ∷ others) left e is valid w calm ample h =
    no-line (any_have_text (as_any_have o)) (any_have_texts others ++ left) (w ∙ append_assoc (have_text o) (any_have_texts others) left)
no-fault-of-asked config (q ∷ haves) [] left e is valid w calm ample h =
    let found = as-have config (Some left) e h in
    no-have-fault (Some config) left q (any_have_texts haves) is.0.askable is.0.own (sym w) found.0 e calm ample found.1
no-fault-of-asked config (q ∷ haves) (o ∷ others) left e is valid w calm ample h =
    let same = same-have (have_text q ++ any_have_texts haves) q o (any_have_texts haves)
    (any_have_texts others ++ left) is.0.askable valid.0.askable refl
    (w ∙ append_assoc (have_text o) (any_have_texts others) left) in
    no-fault-of-asked config haves others left e is.1 valid.1 same.follows calm ample h

-- In a stream of haves no error comes after some of them, as streams state it.
pub unserved : (config : Configuration) (bytes : List ℕ) (haves others : List HaveMessage) (left : Option (List ℕ))
    (e : SyncError) → AllByRecursion (IsHaveOf config) haves → AllByRecursion (IsHaveOf config) others
    → bytes ≡ any_have_texts haves → Consumes (Some bytes) left (any_have_texts others) → e ≢ Io → e ≢ NoMemory → RefusesFurther config left e → ⊥
unserved config bytes haves others None e is valid whole begins calm ample h = begins
unserved config bytes haves others (Some left) e is valid whole begins calm ample h =
    no-fault-of-asked config haves others left e is valid (sym whole ∙ begins) calm ample h

-- What a stream has is the text, stated by the bytes that are known of it.
whole-text : (stream : Option (List ℕ)) (bytes text : List ℕ) → stream ≡ Some bytes → IfSome stream (λ b. b ≡ text) → bytes ≡ text
whole-text stream bytes text same h = let P : Option (List ℕ) → Type 0 = λ s. IfSome s (λ b. b ≡ text) in subst P same h

-- The same, of what it begins with.
known-text : (stream left : Option (List ℕ)) (bytes text : List ℕ) → stream ≡ Some bytes → Consumes stream left text → Consumes (Some bytes) left text
known-text stream left bytes text same h = subst (λ (s : Option (List ℕ)). Consumes s left text) same h

-- The clause `served`: a stream that can be served to its end has no error.
pub served-or-not : (m : Meaning) (one other : SessionRun) (count : ℕ) (e : SyncError) → ReadSame one other
    → e ≢ Io → e ≢ NoMemory → ServesAll one m count → ServesUpTo other m e → ⊥
served-or-not m one other count e same calm ample all part =
    unserved m.config same.0 all.haves part.haves part.left e all.each part.asks.each
    (whole-text one.source same.0 (any_have_texts all.haves) same.1 all.text)
    (known-text other.source part.left same.0 (any_have_texts part.haves) same.2 part.asks.text) calm ample part.cause

-- Two lists of haves with one text are one list.
pub same-haves : (config : Configuration) (haves others : List HaveMessage)
    → AllByRecursion (IsHaveOf config) haves → AllByRecursion (IsHaveOf config) others
    → any_have_texts haves ≡ any_have_texts others
    → haves ≡ others
same-haves config [] [] is valid w = refl
same-haves config [] (o ∷ others) is valid w = absurd (no-line (any_have_text (as_any_have o)) (any_have_texts others) w)
same-haves config (q ∷ haves) [] is valid w = absurd (no-line (any_have_text (as_any_have q)) (any_have_texts haves) (sym w))
same-haves config (q ∷ haves) (o ∷ others) is valid w =
    let same = same-have (have_text q ++ any_have_texts haves) q o (any_have_texts haves) (any_have_texts others) is.0.askable valid.0.askable refl w in
    let later = same-haves config haves others is.1 valid.1 same.follows in
    (λ i. same.have i ∷ later i)

-- The clause `served_once`: the haves of a stream have one number.
pub served-once : (m : Meaning) (one other : SessionRun) (count number : ℕ) → ReadSame one other
    → ServesAll one m count → ServesAll other m number → count ≡ number
served-once m one other count number same all again =
    let first = whole-text one.source same.0 (any_have_texts all.haves) same.1 all.text in
    let second = whole-text other.source same.0 (any_have_texts again.haves) same.2 again.text in
    all.number ∙ ap length (same-haves m.config all.haves again.haves all.each again.each (sym first ∙ second)) ∙ sym again.number

-- ---- answers

-- the error is another one than the refusal of what a line says
abbrev pub IsSpelling : SyncError → Type 0
IsSpelling e = (n : ℕ) (why : TakeError) → e ≢ Refused n why

-- All that the answer brings can be held.
record HoldsGive (config : Configuration) (state whole : State) : Type 0 where
  pub configured : IsConfiguration config
  pub rising : IsRisingState state
  pub valid : IsMeaning (meaning_of_state config (joined state whole))

-- All that the answers bring can be held; the state is that after the others.
pub record HoldsGives (config : Configuration) (from state : State) (gives others : List GiveMessage) : Type 0 where
  pub configured : IsConfiguration config
  pub rising : IsRisingState from
  pub valid : IsMeaning (meaning_of_state config (after_gives from gives))
  pub at : state ≡ after_gives from others

-- What holds all answers holds the first one.
first-holds : (config : Configuration) (from state : State) (r : GiveMessage) (gives : List GiveMessage)
    → HoldsGives config from state (r ∷ gives) [] → HoldsGive config state r.content
first-holds config from state r gives h =
    subst (λ (s : State). HoldsGive config s r.content) (sym h.at)
    (record {
      configured = h.configured;
      rising = h.rising;
      valid = meaning-within config (joined from r.content) (after_gives from (r ∷ gives))
          (within-after (joined from r.content) gives) (rising-joined from r.content h.rising) h.valid;
    })

-- It holds the later ones after the first one.
later-holds : (config : Configuration) (from state : State) (r o : GiveMessage) (gives others : List GiveMessage) → r ≡ o
    → HoldsGives config from state (r ∷ gives) (o ∷ others) → HoldsGives config (joined from r.content) state gives others
later-holds config from state r o gives others same h = record {
  configured = h.configured;
  rising = rising-joined from r.content h.rising;
  valid = h.valid;
  at = h.at ∙ ap (λ (t : GiveMessage). after_gives (joined from t.content) others) (sym same);
}

-- what a line says is not refused
not-refused : (config : Configuration) (state whole content : State) (wanted : Wanted) (text : List ℕ) (e : SyncError)
    → IsSpelling e ⊎ HoldsGive config state whole → IsContent whole → IsContent content → IsGood whole content wanted text
    → (n : ℕ) (why : TakeError) → e ≡ Refused n why → why ≢ NoTakeMemory
    → IsRefused wanted (meaning_of_state config (joined state content)) (last_of (content_lines content)) text why → ⊥
not-refused config state whole content wanted text e (inl spelt) is begun good n why same ample h = spelt n why same
not-refused config state whole content wanted text e (inr holds) is begun good n why same ample h =
    none-refused config holds.configured state whole content holds.rising holds.valid is begun wanted (last_of (content_lines content)) text
    good.later why good.lines ample h

-- A good line has no error of its spelling.
no-line-fault : (config : Configuration) (state : State) (first : ℕ) (whole content : State) (wanted : Wanted)
    (text : List ℕ) (e : SyncError) → e ≢ NoMemory
    → ((n : ℕ) (why : TakeError) → e ≡ Refused n why → why ≢ NoTakeMemory
    → IsRefused wanted (meaning_of_state config (joined state content)) (last_of (content_lines content)) text why → ⊥)
    → IsGood whole content wanted text
    → refused_line config state first content wanted (last_of (content_lines content)) text e → ⊥
no-line-fault config state first whole content wanted text BadHeader ample spelt good h = h
no-line-fault config state first whole content wanted text ConfigDiffers ample spelt good h = h
no-line-fault config state first whole content wanted text VersionDiffers ample spelt good h = h
no-line-fault config state first whole content wanted text (NotCanonical n) ample spelt good h = elim (h.1) [
  | inl long ↦ let short = short-entry wanted text good.entry good.next.is in omega (arith, long, short)
  | inr none ↦ none good.entry good.next.is
]
no-line-fault config state first whole content wanted text (NotRising n) ample spelt good h = h.1.below good.next.above
no-line-fault config state first whole content wanted text BadCount ample spelt good h = h
no-line-fault config state first whole content wanted text Truncated ample spelt good h = h
no-line-fault config state first whole content wanted text (Refused n why) ample spelt good h = spelt n why refl h.1 h.2
no-line-fault config state first whole content wanted text Io ample spelt good h = h
no-line-fault config state first whole content wanted text NoMemory ample spelt good h = ample refl

-- the texts of the answers, one after another
abbrev pub give_texts : List GiveMessage → List ℕ
give_texts gives = flat_map give_text gives

-- The answer with which a stream continues has no error of its spelling.
no-fault-of-give : (config : Configuration) (state : State) (bucket first : ℕ) (content : State) (r : GiveMessage)
    (left rest : List ℕ) (e : SyncError) → IsGiveAbout config bucket r → left ≡ give_text r ++ rest
    → e ≢ Io → e ≢ NoMemory → IsSpelling e ⊎ HoldsGive config state r.content
    → RefusesGiveAbout config state bucket first content (Some left) e → ⊥
no-fault-of-give config state bucket first content r left rest e is begins calm ample spelt (inl head) =
    no-head-fault (Some (record { config = config; bucket = bucket })) left r rest is.form is.about is.own begins head.after e calm ample head.cause
no-fault-of-give config state bucket first content r left rest e is begins calm ample spelt (inr fault) =
    no-fault-after (Some (record { config = config; bucket = bucket })) left r rest is.form is.about is.own begins
    (refused_line config state first content) fault.count fault.distrusts content fault.further fault.after e
    (λ wanted text good. no-line-fault config state first r.content content wanted text e ample
    (not-refused config state r.content content wanted text e spelt is.form.valid fault.begins.begun.valid good) good)
    calm ample fault.begins fault.cause

-- The text of a list of answers is that of the first and of the others.
pub joined-texts : (r : GiveMessage) (gives : List GiveMessage) (rest : List ℕ) → give_texts (r ∷ gives) ++ rest ≡ give_text r ++ (give_texts gives ++ rest)
joined-texts r gives rest = append_assoc (give_text r) (give_texts gives) rest

-- In a stream of answers no error of spelling comes before the last of them.
no-fault-of-gives : (config : Configuration) (from state : State) (start bucket first : ℕ) (content : State)
    (gives others : List GiveMessage) (rest left : List ℕ) (e : SyncError)
    → AreGives config start gives → AreGives config start others → length others < length gives → bucket ≡ start + length others
    → give_texts gives ++ rest ≡ give_texts others ++ left → e ≢ Io → e ≢ NoMemory
    → IsSpelling e ⊎ HoldsGives config from state gives others → RefusesGiveAbout config state bucket first content (Some left) e → ⊥
no-fault-of-gives config from state start bucket first content [] others rest left e is valid few at w calm ample fine h = omega (arith, few)
no-fault-of-gives config from state start bucket first content (r ∷ gives) [] rest left e is valid few at w calm ample fine h =
    let same : start ≡ bucket = omega (arith, at) in
    no-fault-of-give config state bucket first content r left (give_texts gives ++ rest) e
    (subst (λ (b : ℕ). IsGiveAbout config b r) same is.0) (sym w ∙ joined-texts r gives rest) calm ample
    (elim fine [ inl spelt ↦ inl spelt | inr holds ↦ inr (first-holds config from state r gives holds) ]) h
no-fault-of-gives config from state start bucket first content (r ∷ gives) (o ∷ others) rest left e is valid few at w calm ample fine h =
    let same = same-give (give_texts (r ∷ gives) ++ rest) r o (give_texts gives ++ rest)
    (give_texts others ++ left) is.0.form valid.0.form (joined-texts r gives rest)
    (w ∙ joined-texts o others left) in
    no-fault-of-gives config (joined from r.content) state (start + 1) bucket first content gives others rest left e is.1 valid.1
    (omega (arith, few)) (omega (arith, at)) same.follows calm ample
    (elim fine [ inl spelt ↦ inl spelt | inr holds ↦ inr (later-holds config from state r o gives others same.give holds) ]) h

-- No error of spelling comes before the last answer, as streams state it.
pub unpulled : (config : Configuration) (from state : State) (bytes : List ℕ) (first : ℕ) (content : State)
    (gives others : List GiveMessage) (rest left : Option (List ℕ)) (e : SyncError)
    → AreGives config 0 gives → AreGives config 0 others → length others < length gives
    → Consumes (Some bytes) rest (give_texts gives) → Consumes (Some bytes) left (give_texts others)
    → e ≢ Io → e ≢ NoMemory → IsSpelling e ⊎ HoldsGives config from state gives others
    → RefusesGiveAbout config state (length others) first content left e → ⊥
unpulled config from state bytes first content gives others None left e is valid few whole begins calm ample fine h = whole
unpulled config from state bytes first content gives others (Some rest) None e is valid few whole begins calm ample fine h = begins
unpulled config from state bytes first content gives others (Some rest) (Some left) e is valid few whole begins calm ample fine h =
    let at : length others ≡ 0 + length others = omega arith in
    no-fault-of-gives config from state 0 (length others) first content gives others rest left e is valid few at (sym whole ∙ begins) calm ample fine h

-- if a stream begins with all answers, a pull has no error that is excluded here
all-or-part : (old new now : Meaning) (one other : SessionRun) (e : SyncError) → ReadSame one other → e ≢ Io → e ≢ NoMemory
    → (all : PullsAll one old new) → (part : PullsUpTo other old now e)
    → IsSpelling e ⊎ HoldsGives old.config (state_of old) (after_gives (state_of old) part.gives) all.gives part.gives → ⊥
all-or-part old new now one other e same calm ample all part fine =
    let many = all.all in
    let few = part.few in
    unpulled old.config (state_of old) (after_gives (state_of old) part.gives) same.0 (line_count part.gives + 1) part.content
    all.gives part.gives all.left part.left e all.session.each part.session.each (omega (arith, many, few))
    (known-text one.source all.left same.0 (give_texts all.gives) same.1 all.session.text)
    (known-text other.source part.left same.0 (give_texts part.gives) same.2 part.session.text) calm ample fine part.cause

-- The clause `pulled`: a stream of all answers has no error, except that what a line says may be
-- refused.
pub pulled-or-not : (old new now : Meaning) (one other : SessionRun) (e : SyncError) → ReadSame one other → e ≢ Io → e ≢ NoMemory
    → ((n : ℕ) (why : TakeError) → e ≢ Refused n why) → PullsAll one old new → PullsUpTo other old now e → ⊥
pulled-or-not old new now one other e same calm ample spelt all part = all-or-part old new now one other e same calm ample all part (inl spelt)

-- If what the answers bring can be held, nothing of it is refused.
pub taken-or-not : (old new now : Meaning) (one other : SessionRun) (e : SyncError) → ReadSame one other → IsConfiguration old.config
    → IsMeaning old → IsMeaning new → e ≢ Io → e ≢ NoMemory → PullsAll one old new → PullsUpTo other old now e → ⊥
taken-or-not old new now one other e same configured valid held calm ample all part =
    all-or-part old new now one other e same calm ample all part
    (inr (record { configured = configured; rising = rising-meaning old valid; valid = subst IsMeaning all.meaning held; at = refl }))

-- Two lists of the same number of answers with which a stream begins are one list.
same-gives : (config : Configuration) (start : ℕ) (gives others : List GiveMessage) (rest left : List ℕ)
    → AreGives config start gives → AreGives config start others → length gives ≡ length others
    → give_texts gives ++ rest ≡ give_texts others ++ left → gives ≡ others
same-gives config start [] [] rest left is valid many w = refl
same-gives config start [] (o ∷ others) rest left is valid many w = absurd (omega (arith, many))
same-gives config start (r ∷ gives) [] rest left is valid many w = absurd (omega (arith, many))
same-gives config start (r ∷ gives) (o ∷ others) rest left is valid many w =
    let same = same-give (give_texts (r ∷ gives) ++ rest) r o (give_texts gives ++ rest)
    (give_texts others ++ left) is.0.form valid.0.form (joined-texts r gives rest)
    (w ∙ joined-texts o others left) in
    let later = same-gives config (start + 1) gives others rest left is.1 valid.1 (omega (arith, many)) same.follows in
    (λ i. same.give i ∷ later i)

-- Two lists of the same number of answers with which a stream begins are one, as streams state it.
pub both-gives : (config : Configuration) (bytes : List ℕ) (gives others : List GiveMessage) (rest left : Option (List ℕ))
    → AreGives config 0 gives → AreGives config 0 others → length gives ≡ length others
    → Consumes (Some bytes) rest (give_texts gives) → Consumes (Some bytes) left (give_texts others) → gives ≡ others
both-gives config bytes gives others None left is valid many whole other = absurd whole
both-gives config bytes gives others (Some rest) None is valid many whole other = absurd other
both-gives config bytes gives others (Some rest) (Some left) is valid many whole other =
    same-gives config 0 gives others rest left is valid many (sym whole ∙ other)

-- The clause `pulled_once`: what is held after the session is one meaning.
pub pulled-once : (old new now : Meaning) (one other : SessionRun) → ReadSame one other → PullsAll one old new → PullsAll other old now → new ≡ now
pulled-once old new now one other same all again =
    let many : length all.gives ≡ length again.gives = all.all ∙ sym again.all in
    let gives = both-gives old.config same.0 all.gives again.gives all.left again.left all.session.each again.session.each many
    (known-text one.source all.left same.0 (give_texts all.gives) same.1 all.session.text)
    (known-text other.source again.left same.0 (give_texts again.gives) same.2 again.session.text) in
    all.meaning ∙ ap (λ (rs : List GiveMessage). meaning_of_state old.config (after_gives (state_of old) rs)) gives ∙ sym again.meaning
