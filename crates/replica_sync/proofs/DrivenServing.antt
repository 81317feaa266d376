-- The machine that answers haves, over a source and a sink.
use Rattle.std.proofs.Common.{◌≡◌, ◌≢◌, ℕ, ◌+◌, ◌<◌, ◌≤◌, ◌⊎◌, inl, inr, List, [], ◌∷◌, ◌++◌, length, take, drop, Option, None, Some}
use Rattle.std.proofs.Common.{refl, sym, ap, ◌∙◌, subst, append_assoc, append-nil, take-append-drop, length-append, arith}
use Rattle.std.specs.Io.KnownBytes.{Appends, IsAtEnd, prepend_known}
use Rattle.std.proofs.lemmas.List.{drop_all}
use Rattle.std.proofs.lemmas.List.Elements.{All-append, All-from_recursion, recursion_from_All}
use Rattle.fed_config.specs.Configuration.{Configuration}
use Rattle.receipt_core.specs.Acceptance.{Meaning}
use Rattle.byte_lines.specs.Device.{AppendsBeginning}
use Rattle.byte_lines.specs.Lines.{HasLine, HasNoFeed, HasNoLine}
use Rattle.byte_lines.proofs.StreamFacts.{Consumes-front}
use Rattle.replica_core.specs.Session.{GiveMessage, give_of}
use Rattle.replica_core.specs.declared.error.SyncError.{SyncError}
use Rattle.replica_core.specs.declared.error.SyncError.TheVariants.{BadHeader, ConfigDiffers, VersionDiffers, NotCanonical, NotRising, BadCount, Truncated}
use Rattle.replica_core.specs.declared.error.SyncError.TheVariants.{Refused, Io, NoMemory}
use Rattle.replica_texts.specs.FirstLines.{HasBadFirstLine, RefusesHaveLine}
use Rattle.replica_texts.specs.Haves.{RefusesFurther}
use Rattle.replica_texts.specs.Messages.{give_header_of, give_header_text, give_text, have_text}
use Rattle.replica_texts.specs.Snapshots.{ended}
use Rattle.replica_texts.proofs.OneHaveFacts.{first-cause}
use Rattle.replica_sync.specs.AnsweredFrom.{answered_from}
use Rattle.replica_sync.specs.SessionRun.{session_run}
use Rattle.replica_sync.specs.Serving.{ServesUpTo}
use Rattle.replica_sync.specs.Inside.LineErrors.{IsLineError}
use Rattle.replica_sync.specs.Inside.Serving.{IsAnswerCount, Served, ServesOne}
use Rattle.replica_sync.specs.Inside.ServingSteps.{RefusesPiece, TakesHave}
use Rattle.replica_sync.specs.declared.answer_records.AnswerRecords.{AnswerRecords}
use Rattle.replica_sync.specs.declared.answer_records.AnswerRecords.TheVariants.{All, LeftOut}
use Rattle.replica_sync.proofs.FeedSearch.{plain_back}
use Rattle.replica_sync.proofs.ServeLawFacts.{has_byte}
use Rattle.replica_sync.proofs.ServingFacts.{served-begun, served-idle, served-more, served-still, served-stops}

-- With all records it is answered from what is held.
pub from_all : (records : AnswerRecords) (m : Meaning) → records ≡ All → answered_from records m ≡ m
from_all All m is = refl
from_all LeftOut m is = absurd (cc)

-- ---- how many answers are due

no_answer : (due : List ℕ) (count : ℕ) → due ≡ [] → IsAnswerCount due count → count ≡ 0
no_answer due count none (inl zero) = zero.1
no_answer due count none (inr one) = absurd (let size = ap length none in let some = one.0 in omega (arith, size, some))

one_answer : (due : List ℕ) (count : ℕ) → 0 < length due → IsAnswerCount due count → count ≡ 1
one_answer due count some (inl zero) = absurd (let none = zero.0 in omega (arith, none, some))
one_answer due count some (inr one) = one.1

pub few_answers : (due : List ℕ) (count : ℕ) → IsAnswerCount due count → count ≤ 1
few_answers due count (inl zero) = let none = zero.1 in omega (arith, none)
few_answers due count (inr one) = let is = one.1 in omega (arith, is)

-- A line has a byte.
some_ended : (text rest : List ℕ) → 0 < length (ended text ++ rest)
some_ended text rest = omega (arith, length-append (text ++ (10 ∷ [])) rest, length-append text (10 ∷ []))

-- An answer has a byte.
some_give : (r : GiveMessage) → 0 < length (give_text r)
some_give r = some_ended (give_header_text (give_header_of r)) _

-- A machine takes some of the bytes that it is given.
pub some_taken : (m : Meaning) (old piece : List ℕ) (used : ℕ) (new due : List ℕ) → TakesHave m old piece used new due → 0 < length piece
    → (0 < used) × (used ≤ length piece)
some_taken m old piece used new due (inl goes) some = let all = goes.all in (omega (arith, all, some), omega (arith, all))
some_taken m old piece used new due (inr ends) some = (ends.ends.some, ends.ends.within)

-- ---- what a piece does

-- A have that a piece ends, and what follows it.
have_parts : (kept ahead then later text : List ℕ) (used : ℕ) → kept ++ take used ahead ≡ text ++ (10 ∷ []) → then ≡ [] → later ≡ drop used ahead
    → kept ++ ahead ≡ (text ++ (10 ∷ [])) ++ (then ++ later)
have_parts kept ahead then later text used parts none passed =
    ap (λ (l : List ℕ). kept ++ l) (sym (take-append-drop used ahead))
    ∙ sym (append_assoc kept (take used ahead) (drop used ahead))
    ∙ ap (λ (l : List ℕ). l ++ drop used ahead) parts
    ∙ ap (λ (l : List ℕ). (text ++ (10 ∷ [])) ++ l) (sym (ap (λ (l : List ℕ). l ++ later) none ∙ passed))

-- A piece is taken, and what was due is written: one have more is answered, or none.
pub served-piece : (m : Meaning) (stream old now new : Option (List ℕ)) (kept ahead then later due : List ℕ) (rest : Option (List ℕ)) (used count more : ℕ)
    → Served m stream (prepend_known (kept ++ ahead) rest) old now count → TakesHave m kept ahead used then due → later ≡ drop used ahead
    → Appends now new due → IsAnswerCount due more → Served m stream (prepend_known (then ++ later) rest) old new (count + more)
served-piece m stream old now new kept ahead then later due rest used count more s (inl goes) passed written answers =
    let same : then ++ later ≡ kept ++ ahead =
    ap (λ (l : List ℕ). then ++ l) (passed ∙ drop_all used ahead (let all = goes.all in omega (arith, all))) ∙ append-nil then ∙ goes.goes.kept in
    subst (λ (l : List ℕ). Served m stream (prepend_known l rest) old new (count + more)) (sym same)
    (served-still m stream (prepend_known (kept ++ ahead) rest) old now new count more s (subst (Appends now new) goes.none written)
    (no_answer due more goes.none answers))
served-piece m stream old now new kept ahead then later due rest used count more s (inr ends) passed written answers =
    let some : 0 < length due = subst (λ (l : List ℕ). 0 < length l) (sym ends.is) (some_give (give_of m ends.have)) in
    let one : ServesOne m (prepend_known (kept ++ ahead) rest) (prepend_known (then ++ later) rest) now new = record {
      have = ends.have;
      own = ends.own;
      text = Consumes-front (kept ++ ahead) (have_text ends.have) (then ++ later) rest
          (have_parts kept ahead then later _ used ends.ends.parts ends.kept passed);
      written = subst (Appends now new) ends.is written;
    } in
    subst (λ (n : ℕ). Served m stream (prepend_known (then ++ later) rest) old new (count + n)) (sym (one_answer due more some answers))
    (served-more m stream (prepend_known (kept ++ ahead) rest) (prepend_known (then ++ later) rest) old now new count s one)

-- A piece is taken, and the sink fails.
pub served-unwritten : (m : Meaning) (stream old now new : Option (List ℕ)) (kept ahead then due : List ℕ) (rest : Option (List ℕ)) (used count : ℕ)
    → Served m stream (prepend_known (kept ++ ahead) rest) old now count → TakesHave m kept ahead used then due
    → AppendsBeginning now new due → ServesUpTo (session_run stream old new) m Io
served-unwritten m stream old now new kept ahead then due rest used count s (inl goes) begun =
    served-idle m stream (prepend_known (kept ++ ahead) rest) old now new count s (subst (AppendsBeginning now new) goes.none begun)
served-unwritten m stream old now new kept ahead then due rest used count s (inr ends) begun =
    served-begun m stream (prepend_known (kept ++ ahead) rest) (prepend_known ([] ++ drop used ahead) rest) old now new count ends.have s ends.own
    (Consumes-front (kept ++ ahead) (have_text ends.have) ([] ++ drop used ahead) rest
    (have_parts kept ahead [] (drop used ahead) _ used ends.ends.parts refl refl))
    (subst (AppendsBeginning now new) ends.is begun)

-- ---- why a have is not answered

-- A line with an error has it whatever follows it.
bad_line : (refuses : List ℕ → SyncError → Type 0) (bytes extra text after : List ℕ) (new : Option (List ℕ)) (e : SyncError) → HasNoFeed text
    → bytes ≡ ended text ++ after → HasBadFirstLine refuses (Some (bytes ++ extra)) new e → HasBadFirstLine refuses (Some bytes) (Some after) e
bad_line refuses bytes extra text after new e plain is bad = record {
  text = text;
  is = (plain, is);
  cause = first-cause refuses (bytes ++ extra) text (after ++ extra) new e plain
      (ap (λ (l : List ℕ). l ++ extra) is ∙ append_assoc (ended text) after extra) bad;
}

-- Bytes that begin with a line have a line feed.
has_feed : (bytes text after : List ℕ) → bytes ≡ ended text ++ after → HasNoFeed bytes → ⊥
has_feed bytes text after is plain =
    let last = plain_back text (10 ∷ after) (subst HasNoFeed (is ∙ append_assoc text (10 ∷ []) after) plain) in
    (recursion_from_All (λ b. b ≢ 10) (10 ∷ after) last).0 refl

line_cause : (config : Configuration) (bytes extra text after : List ℕ) (e : SyncError) → HasNoFeed text → bytes ≡ ended text ++ after
    → RefusesFurther config (Some (bytes ++ extra)) e → RefusesFurther config (Some bytes) e
line_cause config bytes extra text after BadHeader plain is h =
    (Some after, bad_line (RefusesHaveLine (Some config)) bytes extra text after h.0 BadHeader plain is h.1)
line_cause config bytes extra text after ConfigDiffers plain is h =
    (Some after, bad_line (RefusesHaveLine (Some config)) bytes extra text after h.0 ConfigDiffers plain is h.1)
line_cause config bytes extra text after VersionDiffers plain is h =
    (Some after, bad_line (RefusesHaveLine (Some config)) bytes extra text after h.0 VersionDiffers plain is h.1)
line_cause config bytes extra text after (NotCanonical n) plain is h = h
line_cause config bytes extra text after (NotRising n) plain is h = h
line_cause config bytes extra text after BadCount plain is h = h
line_cause config bytes extra text after Truncated plain is h =
    absurd (has_feed (bytes ++ extra) text (after ++ extra) (ap (λ (l : List ℕ). l ++ extra) is ∙ append_assoc (ended text) after extra) h.0)
line_cause config bytes extra text after (Refused n why) plain is h = h
line_cause config bytes extra text after Io plain is h = tt
line_cause config bytes extra text after NoMemory plain is h = tt

-- The same for a source that cannot report its bytes.
bad_unknown : (refuses : List ℕ → SyncError → Type 0) (bytes : List ℕ) (new : Option (List ℕ)) (e : SyncError)
    → HasBadFirstLine refuses (Some bytes) new e → HasBadFirstLine refuses None None e
bad_unknown refuses bytes new e bad = record { text = bad.text; is = (bad.is.0, tt); cause = bad.cause }

unknown_cause : (config : Configuration) (bytes : List ℕ) (e : SyncError) → RefusesFurther config (Some bytes) e → RefusesFurther config None e
unknown_cause config bytes BadHeader h = (None, bad_unknown (RefusesHaveLine (Some config)) bytes h.0 BadHeader h.1)
unknown_cause config bytes ConfigDiffers h = (None, bad_unknown (RefusesHaveLine (Some config)) bytes h.0 ConfigDiffers h.1)
unknown_cause config bytes VersionDiffers h = (None, bad_unknown (RefusesHaveLine (Some config)) bytes h.0 VersionDiffers h.1)
unknown_cause config bytes (NotCanonical n) h = h
unknown_cause config bytes (NotRising n) h = h
unknown_cause config bytes BadCount h = h
unknown_cause config bytes Truncated h = (tt, tt)
unknown_cause config bytes (Refused n why) h = h
unknown_cause config bytes Io h = tt
unknown_cause config bytes NoMemory h = tt

-- A line continues after what was kept of it.
longer_line : (kept piece xs text since : List ℕ) → piece ++ xs ≡ ended text ++ since → (kept ++ piece) ++ xs ≡ ended (kept ++ text) ++ since
longer_line kept piece xs text since is =
    append_assoc kept piece xs ∙ ap (λ (l : List ℕ). kept ++ l) is
    ∙ sym (append_assoc kept (ended text) since)
    ∙ ap (λ (l : List ℕ). l ++ since) (sym (append_assoc kept text (10 ∷ [])))

-- The error of a machine is one of the stream, if the line ends.
piece_cause : (m : Meaning) (kept piece text : List ℕ) (rest after : Option (List ℕ)) (e : SyncError) → HasNoFeed kept → RefusesPiece m kept piece e
    → HasLine (prepend_known piece rest) after text → RefusesFurther m.config (prepend_known (kept ++ piece) rest) e
piece_cause m kept piece text None after e plain refused line = unknown_cause m.config _ e (refused [] [])
piece_cause m kept piece text (Some xs) None e plain refused line = absurd line.1
piece_cause m kept piece text (Some xs) (Some since) e plain refused line =
    line_cause m.config ((kept ++ piece) ++ xs) (10 ∷ []) (kept ++ text) since e
    (All-append (λ (b : ℕ). b ≢ 10) kept text plain line.0) (longer_line kept piece xs text since line.1)
    (subst (λ (l : List ℕ). RefusesFurther m.config (Some l) e) (sym (append_assoc (kept ++ piece) xs (10 ∷ []))) (refused xs []))

-- The stream ends within a have.
cut_cause : (config : Configuration) (kept piece : List ℕ) (rest : Option (List ℕ)) → HasNoFeed kept → 0 < length (kept ++ piece)
    → HasNoLine (prepend_known piece rest) → RefusesFurther config (prepend_known (kept ++ piece) rest) Truncated
cut_cause config kept piece None plain some none = (tt, tt)
cut_cause config kept piece (Some xs) plain some none = (
  subst HasNoFeed (sym (append_assoc kept piece xs)) (All-append (λ (b : ℕ). b ≢ 10) kept (piece ++ xs) plain none),
  omega (arith, some, length-append (kept ++ piece) xs),
)

-- A machine refuses a piece, and its line ends or is cut.
pub served-refused : (m : Meaning) (stream old now : Option (List ℕ)) (kept ahead : List ℕ) (rest : Option (List ℕ)) (count : ℕ) (why e : SyncError)
    → HasNoFeed kept → 0 < length ahead → Served m stream (prepend_known (kept ++ ahead) rest) old now count → RefusesPiece m kept ahead why
    → IsLineError why (prepend_known ahead rest) e → ServesUpTo (session_run stream old now) m e
served-refused m stream old now kept ahead rest count why e plain some s refused (inl line) =
    served-stops m stream (prepend_known (kept ++ ahead) rest) old now count e s
    (subst (RefusesFurther m.config (prepend_known (kept ++ ahead) rest)) (sym line.0)
    (piece_cause m kept ahead line.1.0 rest line.1.1 why plain refused line.1.2))
served-refused m stream old now kept ahead rest count why e plain some s refused (inr cut) =
    served-stops m stream (prepend_known (kept ++ ahead) rest) old now count e s
    (subst (RefusesFurther m.config (prepend_known (kept ++ ahead) rest)) (sym cut.0)
    (cut_cause m.config kept ahead rest plain (let both = length-append kept ahead in omega (arith, both, some)) cut.1))

-- A stream at its end has no line.
end_line : (rest : Option (List ℕ)) → IsAtEnd rest → HasNoLine (prepend_known [] rest)
end_line None end = tt
end_line (Some xs) end = subst HasNoFeed (sym end) (All-from_recursion (λ b. b ≢ 10) [] tt)

-- The stream ends while a beginning of a have is kept.
pub served-cut : (m : Meaning) (stream old now : Option (List ℕ)) (kept ahead : List ℕ) (rest : Option (List ℕ)) (count : ℕ) → HasNoFeed kept
    → (kept ≡ [] → ⊥) → ahead ≡ [] → IsAtEnd rest → Served m stream (prepend_known (kept ++ ahead) rest) old now count
    → ServesUpTo (session_run stream old now) m Truncated
served-cut m stream old now kept ahead rest count plain some none end s =
    served-stops m stream (prepend_known (kept ++ ahead) rest) old now count Truncated s
    (cut_cause m.config kept ahead rest plain (let both = length-append kept ahead in let one = has_byte kept some in omega (arith, both, one))
    (subst (λ (l : List ℕ). HasNoLine (prepend_known l rest)) (sym none) (end_line rest end)))

-- A machine without an error ends within a have.
pub within_have : (f : Option SyncError) (e : SyncError) (K : Type 0) → f ≡ None → (f ≡ Some e) ⊎ ((f ≡ None) × (e ≡ Truncated) × K) → (e ≡ Truncated) × K
within_have f e K sound (inl fault) = absurd (let no : None ≡ Some e = sym sound ∙ fault in cc)
within_have f e K sound (inr cut) = (cut.1, cut.2)
