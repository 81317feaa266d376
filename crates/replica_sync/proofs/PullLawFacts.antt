-- A session whose answers come in pieces, if nothing else changes what is held: it is one of a pull
-- that reads the joined bytes.
use Rattle.std.proofs.Common.{◌≡◌, ◌≢◌, ℕ, ◌+◌, ◌<◌, ◌≤◌, ◌⊎◌, inl, inr, List, [], ◌∷◌, ◌++◌, length, take}
use Rattle.std.proofs.Common.{Option, None, Some, Ok, Err, refl, sym, ap, ◌∙◌, subst, append_assoc, append-nil, length-append, true, arith}
use Rattle.std.specs.List.{flat_map}
use Rattle.std.proofs.lemmas.Grind.{flat_map-append}
use Rattle.std.proofs.lemmas.List.{length-map, take_all, take-append-le}
use Rattle.std.proofs.lemmas.List.Sums.{fold-append}
use Rattle.fed_config.specs.Configuration.{Configuration}
use Rattle.receipt_core.specs.declared.distrust.Distrust.{Distrust}
use Rattle.receipt_core.specs.Receipt.{Receipt, distrust_cmp, receipt_cmp}
use Rattle.receipt_core.specs.Rising.{with_items}
use Rattle.receipt_core.specs.Acceptance.{Meaning}
use Rattle.byte_lines.specs.Lines.{HasNoFeed}
use Rattle.replica_core.specs.Absorbing.{entries_of, of_receipts, of_records, with_entries, with_entry}
use Rattle.replica_core.specs.Session.{GiveMessage, HaveMessage, have_of, state_of}
use Rattle.replica_core.specs.State.{State, joined, meaning_of_state, no_state}
use Rattle.replica_core.specs.declared.entry.Entry.{Entry}
use Rattle.replica_core.specs.declared.entry.Entry.TheVariants.{Record, Receipt as AReceipt}
use Rattle.replica_core.specs.declared.error.SyncError.{SyncError}
use Rattle.replica_core.specs.declared.error.SyncError.TheVariants.{Io, NoMemory, Truncated}
use Rattle.replica_texts.specs.FirstLines.{Expected}
use Rattle.replica_texts.specs.Gives.{RefusesHead, RefusesNextEntry, Wants}
use Rattle.replica_texts.specs.declared.entry_line.Wanted.{Wanted}
use Rattle.replica_sync.specs.SessionRun.{IsWritten, known_run}
use Rattle.replica_texts.specs.Messages.{give_text, have_text}
use Rattle.replica_sync.specs.Pulling.{AreGives, HasGained, IsGiveAbout, Pulls, PullsAll, PullsUpTo, RefusesGiveAbout}
use Rattle.replica_sync.specs.Pulling.{after_gives, have_in, haves_of, line_count}
use Rattle.replica_sync.proofs.PullingFacts.{gives_more, haves_more, longer_with_items, written_all}
use Rattle.replica_sync.proofs.TakingFacts.{wants}
use Rattle.replica_sync.specs.PulledPieces.{AreAlone, ArePulledGives, PulledGive, PulledGives, PulledPiece, TakesInTurn}
use Rattle.replica_sync.specs.PulledPieces.{bytes_pulled, gives_of, haves_asked, haves_pulled, held_at_end, lines_pulled, pieces_of, receipts_pulled}
use Rattle.replica_sync.specs.PullSessions.{ContinuesPulling, HasLinesOf, HasPulledAll, PullsPieces, StopsAnswer, StopsAsking, StopsInGive}
use Rattle.replica_sync.specs.declared.answer_lines.AnswerLines.{AnswerLines}
use Rattle.replica_sync.proofs.PullStepFacts.{next_line}

-- ---- pieces between which nothing changes

-- what is held between two parts of the pieces
pub record Halves (before : Meaning) (first second : List PulledPiece) (after : Meaning) : Type 0 where
  pub then : Meaning
  pub before_it : AreAlone before first then
  pub after_it : AreAlone then second after

-- Pieces between which nothing changes are two such parts.
pub halves : (before : Meaning) (first second : List PulledPiece) (after : Meaning) → AreAlone before (first ++ second) after
    → Halves before first second after
halves before [] second after h = record { then = before; before_it = refl; after_it = h }
halves before (c ∷ first) second after h =
    let rest = halves c.new first second after h.1 in
    record { then = rest.then; before_it = (h.0, rest.before_it); after_it = rest.after_it }

-- What is held after them is what was held, with the entries that they take.
pub alone_takes : (before : Meaning) (came : List PulledPiece) (after : Meaning) (entries : List Entry) → AreAlone before came after
    → TakesInTurn came entries → after ≡ with_entries entries before
alone_takes before [] after [] h takes = h
alone_takes before [] after (e ∷ entries) h takes = absurd takes
alone_takes before (c ∷ came) after [] h takes = alone_takes c.new came after [] h.1 takes.1 ∙ takes.0 ∙ h.0
alone_takes before (c ∷ came) after (e ∷ entries) h (inl takes) =
    alone_takes c.new came after (e ∷ entries) h.1 takes.1 ∙ ap (with_entries (e ∷ entries)) (takes.0 ∙ h.0)
alone_takes before (c ∷ came) after (e ∷ entries) h (inr takes) =
    alone_takes c.new came after entries h.1 takes.1 ∙ ap (with_entries entries) (takes.0 ∙ ap (with_entry e) h.0)

-- What is held after the last of them is what is held then.
pub alone_last : (before : Meaning) (came : List PulledPiece) (c : PulledPiece) (after : Meaning) → AreAlone before (came ++ c ∷ []) after → after ≡ c.new
alone_last before [] c after h = h.1
alone_last before (d ∷ came) c after h = alone_last d.new came c after h.1

-- One entry more makes what is held no smaller.
grows_with : (entry : Entry) (m : Meaning) → length m.held ≤ length (with_entry entry m).held
grows_with (Record x) m = omega arith
grows_with (AReceipt r) m = longer_with_items receipt_cmp (r ∷ []) m.held

-- The receipts that the pieces bring are those that are held then and were not.
alone_gains : (before : Meaning) (came : List PulledPiece) (after : Meaning) (entries : List Entry) → AreAlone before came after
    → TakesInTurn came entries → length after.held ≡ length before.held + receipts_pulled came
alone_gains before [] after [] h takes = let same = ap (λ (m : Meaning). length m.held) h in omega (arith, same)
alone_gains before [] after (e ∷ entries) h takes = absurd takes
alone_gains before (c ∷ came) after [] h takes =
    let rest = alone_gains c.new came after [] h.1 takes.1 in
    let was = ap (λ (m : Meaning). length m.held) h.0 in
    let same = ap (λ (m : Meaning). length m.held) takes.0 in
    omega (arith, rest, was, same)
alone_gains before (c ∷ came) after (e ∷ entries) h (inl takes) =
    let rest = alone_gains c.new came after (e ∷ entries) h.1 takes.1 in
    let was = ap (λ (m : Meaning). length m.held) h.0 in
    let same = ap (λ (m : Meaning). length m.held) takes.0 in
    omega (arith, rest, was, same)
alone_gains before (c ∷ came) after (e ∷ entries) h (inr takes) =
    let rest = alone_gains c.new came after entries h.1 takes.1 in
    let was = ap (λ (m : Meaning). length m.held) h.0 in
    let same = ap (λ (m : Meaning). length m.held) takes.0 in
    let more = grows_with e c.old in
    omega (arith, rest, was, same, more)

-- What one part takes, and then the other, both take.
takes_both : (first second : List PulledPiece) (xs ys : List Entry) → TakesInTurn first xs → TakesInTurn second ys
    → TakesInTurn (first ++ second) (xs ++ ys)
takes_both [] second [] ys h k = k
takes_both [] second (x ∷ xs) ys h k = absurd h
takes_both (c ∷ first) second [] [] h k = (h.0, takes_both first second [] [] h.1 k)
takes_both (c ∷ first) second [] (y ∷ ys) h k = inl (h.0, takes_both first second [] (y ∷ ys) h.1 k)
takes_both (c ∷ first) second (x ∷ xs) ys (inl h) k = inl (h.0, takes_both first second (x ∷ xs) ys h.1 k)
takes_both (c ∷ first) second (x ∷ xs) ys (inr h) k = inr (h.0, takes_both first second xs ys h.1 k)

-- what whole answers take
abbrev entries_pulled : List PulledGive → List Entry
entries_pulled gives = flat_map (λ (g : PulledGive). entries_of g.give.content) gives

gives_take : (config : Configuration) (bucket : ℕ) (gives : List PulledGive) → ArePulledGives None config bucket gives
    → TakesInTurn (flat_map pieces_of gives) (entries_pulled gives)
gives_take config bucket [] each = tt
gives_take config bucket (g ∷ gives) each =
    takes_both (pieces_of g) (flat_map pieces_of gives) (entries_of g.give.content) (entries_pulled gives) each.0.takes
    (gives_take config (bucket + 1) gives each.1)

-- ---- what is held with entries

-- with all records
with_records : (xs : List Distrust) (m : Meaning) → with_entries (of_records xs) m ≡ record m { records = with_items distrust_cmp xs m.records }
with_records [] m = refl
with_records (x ∷ xs) m = with_records xs (with_entry (Record x) m)

-- with all receipts
with_receipts : (rs : List Receipt) (m : Meaning) → with_entries (of_receipts rs) m ≡ record m { held = with_items receipt_cmp rs m.held }
with_receipts [] m = refl
with_receipts (r ∷ rs) m = with_receipts rs (with_entry (AReceipt r) m)

-- With the entries of what is gained it is joined with that.
pub with_content : (m : Meaning) (content : State) → with_entries (entries_of content) m ≡ meaning_of_state m.config (joined (state_of m) content)
with_content m content =
    fold-append (λ (before : Meaning) (entry : Entry). with_entry entry before) m (of_records content.records) (of_receipts content.held)
    ∙ ap (with_entries (of_receipts content.held)) (with_records content.records m)
    ∙ with_receipts content.held (record m { records = with_items distrust_cmp content.records m.records })

-- A meaning is that of its configuration and of what is held.
pub of_config : (config : Configuration) (m : Meaning) → m.config ≡ config → m ≡ meaning_of_state config (state_of m)
of_config config m own = λ i. record { config = own i; held = m.held; records = m.records }

-- ---- whole answers

-- What whole answers bring and ask if nothing else changes what is held.
pub record GivesAlone (config : Configuration) (bucket : ℕ) (m : Meaning) (gives : List PulledGive) (after : Meaning) : Type 0 where
  pub each : AreGives config bucket (gives_of gives)
  pub text : bytes_pulled (flat_map pieces_of gives) ≡ flat_map give_text (gives_of gives)
  pub meaning : after ≡ meaning_of_state config (after_gives (state_of m) (gives_of gives))
  pub haves : haves_pulled None m bucket gives ≡ haves_of config bucket (state_of m) (gives_of gives)
  pub end : held_at_end m gives ≡ after

gives_alone : (config : Configuration) (bucket : ℕ) (m : Meaning) (gives : List PulledGive) (after : Meaning) → m.config ≡ config
    → ArePulledGives None config bucket gives → AreAlone m (flat_map pieces_of gives) after → GivesAlone config bucket m gives after
gives_alone config bucket m [] after own each alone = record {
  each = tt;
  text = refl;
  meaning = alone ∙ of_config config m own;
  haves = refl;
  end = sym alone;
}
gives_alone config bucket m (g ∷ gives) after own each alone =
    let parts = halves m (pieces_of g) (flat_map pieces_of gives) after alone in
    let content = g.give.content in
    let last : parts.then ≡ g.last.new = alone_last m g.before g.last parts.then parts.before_it in
    let taken : g.last.new ≡ meaning_of_state m.config (joined (state_of m) content) =
    sym last ∙ alone_takes m (pieces_of g) parts.then (entries_of content) parts.before_it each.0.takes ∙ with_content m content in
    let state : state_of g.last.new ≡ joined (state_of m) content = ap state_of taken in
    let rest = gives_alone config (bucket + 1) g.last.new gives after (ap (λ (k : Meaning). k.config) taken ∙ own) each.1
    (subst (λ (k : Meaning). AreAlone k (flat_map pieces_of gives) after) last parts.after_it) in
    record {
      each = (each.0.about, rest.each);
      text = flat_map-append (λ (c : PulledPiece). c.bytes) (pieces_of g) (flat_map pieces_of gives)
          ∙ ap (λ (l : List ℕ). l ++ bytes_pulled (flat_map pieces_of gives)) each.0.text
          ∙ ap (λ (l : List ℕ). give_text g.give ++ l) rest.text;
      meaning = rest.meaning ∙ ap (λ (s : State). meaning_of_state config (after_gives s (gives_of gives))) state;
      haves = ap (λ (k : Meaning). have_of k bucket ∷ haves_pulled None g.last.new (bucket + 1) gives) (of_config config m own)
          ∙ ap (λ (qs : List HaveMessage). have_in config (state_of m) bucket ∷ qs)
          (rest.haves ∙ ap (λ (s : State). haves_of config (bucket + 1) s (gives_of gives)) state);
      end = rest.end;
    }

-- the whole answers of a session, and the pieces after them
pub record AloneThere (start : Meaning) (came : List PulledPiece) (gives : List PulledGive) (later : List PulledPiece) (held : Meaning) : Type 0 where
  pub then : Meaning
  pub whole : GivesAlone start.config 0 start gives then
  pub alone : AreAlone then later held
  pub text : bytes_pulled came ≡ flat_map give_text (gives_of gives) ++ bytes_pulled later

pub alone_there : (start : Meaning) (came : List PulledPiece) (gives : List PulledGive) (later : List PulledPiece) (held : Meaning)
    → PulledGives None start came gives later → AreAlone start came held → AloneThere start came gives later held
alone_there start came gives later held whole alone =
    let parts = halves start (flat_map pieces_of gives) later held (subst (λ (l : List PulledPiece). AreAlone start l held) whole.order alone) in
    let there = gives_alone start.config 0 start gives parts.then refl whole.each parts.before_it in
    record {
      then = parts.then;
      whole = there;
      alone = parts.after_it;
      text = ap bytes_pulled whole.order
          ∙ flat_map-append (λ (c : PulledPiece). c.bytes) (flat_map pieces_of gives) later
          ∙ ap (λ (l : List ℕ). l ++ bytes_pulled later) there.text;
    }

-- The receipts that a session brought are those that are held then and were not.
pub gained_there : (start : Meaning) (came : List PulledPiece) (gives : List PulledGive) (later : List PulledPiece) (entries : List Entry) (held : Meaning)
    → PulledGives None start came gives later → TakesInTurn later entries → AreAlone start came held → HasGained start held (receipts_pulled came)
gained_there start came gives later entries held whole takes alone =
    alone_gains start came held (entries_pulled gives ++ entries) alone
    (subst (λ (l : List PulledPiece). TakesInTurn l (entries_pulled gives ++ entries)) (sym whole.order)
    (takes_both (flat_map pieces_of gives) later (entries_pulled gives) entries (gives_take start.config 0 gives whole.each) takes))

-- The have about the next bucket is made of what is held when the last answer ended.
pub next_have : (start : Meaning) (gives : List PulledGive) (then : Meaning) → GivesAlone start.config 0 start gives then
    → haves_asked None start gives ≡ haves_of start.config 0 (state_of start) (gives_of gives)
    ++ have_in start.config (after_gives (state_of start) (gives_of gives)) (length (gives_of gives)) ∷ []
next_have start gives then there =
    ap (λ (qs : List HaveMessage). qs ++ have_of (held_at_end start gives) (length gives) ∷ []) there.haves
    ∙ ap (λ (m : Meaning). haves_of start.config 0 (state_of start) (gives_of gives) ++ have_of m (length gives) ∷ []) (there.end ∙ there.meaning)
    ∙ ap (λ (n : ℕ). haves_of start.config 0 (state_of start) (gives_of gives)
    ++ have_in start.config (after_gives (state_of start) (gives_of gives)) n ∷ []) (sym (length-map gives (λ (g : PulledGive). g.give)))

-- what is held after the answers, with what was taken of the next one
pub held_there : (start : Meaning) (gives : List PulledGive) (then held : Meaning) (pieces : List PulledPiece) (content : State)
    → GivesAlone start.config 0 start gives then → AreAlone then pieces held → TakesInTurn pieces (entries_of content)
    → held ≡ meaning_of_state start.config (joined (after_gives (state_of start) (gives_of gives)) content)
held_there start gives then held pieces content there alone takes =
    alone_takes then pieces held (entries_of content) alone takes
    ∙ with_content then content
    ∙ ap (λ (m : Meaning). meaning_of_state m.config (joined (state_of m) content)) there.meaning

-- ---- the session

-- All came.
pub all_pulled : (lines : AnswerLines) (start : Meaning) (came : List PulledPiece) (held : Meaning) (written : List ℕ)
    → HasPulledAll None lines start came written → AreAlone start came held → PullsAll (known_run (bytes_pulled came) written) start held
all_pulled lines start came held written all alone =
    let there = alone_there start came all.gives all.later held all.whole alone in
    let size = length-map all.gives (λ (g : PulledGive). g.give) in
    record {
      gives = gives_of all.gives;
      left = Some [];
      session = record {
        each = there.whole.each;
        text = there.text ∙ ap (λ (l : List ℕ). flat_map give_text (gives_of all.gives) ++ l) all.none;
      };
      all = size ∙ all.all;
      meaning = alone_takes there.then all.later held [] there.alone all.takes ∙ there.whole.meaning;
      asked = all.asked ∙ ap (flat_map have_text) there.whole.haves;
    }

-- Why a session ends whose answers continue like this: a device failed, memory ran out, or no line comes any more.
abbrev pub IsCutAt : List ℕ → SyncError → Type 0
IsCutAt bytes d = ((d ≡ Io) ⊎ (d ≡ NoMemory)) ⊎ ((d ≡ Truncated) × HasNoFeed bytes)

-- Before the first line of an answer.
head_cut : (expected : Option Expected) (bytes rest : List ℕ) (d : SyncError) → bytes ≡ rest → IsCutAt rest d
    → RefusesHead expected (Some bytes) None d
head_cut expected bytes rest d same (inl (inl failed)) = subst (RefusesHead expected (Some bytes) None) (sym failed) tt
head_cut expected bytes rest d same (inl (inr out)) = subst (RefusesHead expected (Some bytes) None) (sym out) tt
head_cut expected bytes rest d same (inr cut) =
    subst (RefusesHead expected (Some bytes) None) (sym cut.0) (subst HasNoFeed (sym same) cut.1)

-- Before a later line.
next_cut : (refuses : Wanted → List ℕ → List ℕ → SyncError → Type 0) (count distrusts : ℕ) (content : State) (wanted : Wanted) (bytes : List ℕ) (d : SyncError)
    → Wants count distrusts content wanted → IsCutAt bytes d → RefusesNextEntry refuses count distrusts content (Some bytes) None d
next_cut refuses count distrusts content wanted bytes d w (inl (inl failed)) =
    subst (RefusesNextEntry refuses count distrusts content (Some bytes) None) (sym failed) tt
next_cut refuses count distrusts content wanted bytes d w (inl (inr out)) =
    subst (RefusesNextEntry refuses count distrusts content (Some bytes) None) (sym out) tt
next_cut refuses count distrusts content wanted bytes d w (inr cut) =
    subst (RefusesNextEntry refuses count distrusts content (Some bytes) None) (sym cut.0) (record { wanted = wanted; wants = w; ends = cut.1 })

-- If the next answer has this much.
cut_cause : (lines : AnswerLines) (config : Configuration) (state : State) (before : ℕ) (later : List PulledPiece) (rest tail : List ℕ) (d : SyncError)
    → (lines.is_begun ≡ true → 0 < lines.due.receipts + lines.due.records) → IsCutAt (rest ++ tail) d
    → (some : HasLinesOf config lines before later rest)
    → RefusesGiveAbout config state lines.bucket (before + 1) some.content (Some (bytes_pulled later ++ tail)) d
cut_cause lines config state before later rest tail d due cut some =
    let next = next_line lines.due.receipts lines.due.records (due some.begun) in
    inr (record {
      count = some.count;
      distrusts = some.distrusts;
      further = Some (rest ++ tail);
      after = None;
      begins = record {
        first = some.begins.first;
        heads = some.begins.heads;
        begun = some.begins.begun;
        text = ap (λ (l : List ℕ). l ++ tail) some.begins.text ∙ append_assoc _ rest tail;
      };
      cause = next_cut _ some.count some.distrusts some.content next.wanted (rest ++ tail) d
          (wants next.wanted some.count some.distrusts some.content lines.due.receipts lines.due.records next.receipts_then next.records_then
          next.order some.receipts some.records) cut;
    })

-- The session ends before all came, and a part of what it asks is written.
pub broken_pulled : (answered : ℕ) (lines : AnswerLines) (start : Meaning) (came : List PulledPiece) (held : Meaning) (rest output written tail : List ℕ)
    (d : SyncError) → (lines.is_begun ≡ true → 0 < lines.due.receipts + lines.due.records) → IsCutAt (rest ++ tail) d
    → IsWritten d (Some []) (Some written) output
    → ContinuesPulling None answered lines start came rest output → AreAlone start came held
    → PullsUpTo (known_run (bytes_pulled came ++ tail) written) start held d × HasGained start held (receipts_pulled came)
broken_pulled answered lines start came held rest output written tail d due cut wrote on alone =
    let there = alone_there start came on.gives on.later held on.whole alone in
    let size = length-map on.gives (λ (g : PulledGive). g.give) in
    let few : length on.gives < 256 = on.few in
    let gives = gives_of on.gives in
    let state = after_gives (state_of start) gives in
    let at : lines.bucket ≡ length gives = on.bucket ∙ sym size in
    let asked = subst (IsWritten d (Some []) (Some written)) (on.asked ∙ ap (flat_map have_text) (next_have start on.gives there.then there.whole)) wrote in
    let text : bytes_pulled came ++ tail ≡ flat_map give_text gives ++ (bytes_pulled on.later ++ tail) =
    ap (λ (l : List ℕ). l ++ tail) there.text ∙ append_assoc (flat_map give_text gives) (bytes_pulled on.later) tail in
    elim on.part [
      | inl none ↦ (
        record {
          gives = gives;
          left = Some (bytes_pulled on.later ++ tail);
          session = record { each = there.whole.each; text = text };
          few = omega (arith, size, few);
          content = no_state;
          cause = inl (record { after = None; cause = head_cut _ _ (rest ++ tail) d (ap (λ (l : List ℕ). l ++ tail) none.bytes) cut; none = refl });
          meaning = held_there start on.gives there.then held on.later no_state there.whole there.alone none.takes;
          asked = asked;
        },
        gained_there start came on.gives on.later [] held on.whole none.takes alone,
      )
      | inr some ↦ (
        record {
          gives = gives;
          left = Some (bytes_pulled on.later ++ tail);
          session = record { each = there.whole.each; text = text };
          few = omega (arith, size, few);
          content = some.content;
          cause = subst (λ (b : ℕ). RefusesGiveAbout start.config state b (lines_pulled on.gives + 1) some.content (Some (bytes_pulled on.later ++ tail)) d)
              at (cut_cause lines start.config state (lines_pulled on.gives) on.later rest tail d due cut some);
          meaning = held_there start on.gives there.then held on.later some.content there.whole there.alone some.takes;
          asked = asked;
        },
        gained_there start came on.gives on.later (entries_of some.content) held on.whole some.takes alone,
      )
    ]

-- The stream ends before all came.
pub cut_pulled : (answered : ℕ) (lines : AnswerLines) (start : Meaning) (came : List PulledPiece) (held : Meaning) (rest written : List ℕ)
    → (lines.is_begun ≡ true → 0 < lines.due.receipts + lines.due.records) → HasNoFeed rest
    → ContinuesPulling None answered lines start came rest written → AreAlone start came held
    → PullsUpTo (known_run (bytes_pulled came) written) start held Truncated × HasGained start held (receipts_pulled came)
cut_pulled answered lines start came held rest written due plain on alone =
    let cut = broken_pulled answered lines start came held rest written written [] Truncated due
    (inr (refl, subst HasNoFeed (sym (append-nil rest)) plain)) refl on alone in
    (subst (λ (l : List ℕ). PullsUpTo (known_run l written) start held Truncated) (append-nil (bytes_pulled came)) cut.0, cut.1)

-- The error of an answer, if the meaning is what was held before it with what was taken of it.
cause_there : (m : Meaning) (config : Configuration) (state : State) (bucket first : ℕ) (content : State) (stream : Option (List ℕ)) (e : SyncError)
    → m ≡ meaning_of_state config (joined state content) → StopsAnswer m bucket first content stream e
    → RefusesGiveAbout config state bucket first content stream e
cause_there m config state bucket first content stream e is stops =
    elim (subst (λ (k : Meaning). StopsAnswer k bucket first content stream e) is stops) [
      | inl first_line ↦ inl first_line
      | inr among ↦ inr (record {
        count = among.count;
        distrusts = among.distrusts;
        further = among.further;
        after = among.after;
        begins = among.begins;
        cause = among.cause;
      })
    ]

-- If a line is not taken, the session ends there with an error of the bytes that come.
pub stopped_there : (start : Meaning) (came : List PulledPiece) (held : Meaning) (written : List ℕ) (e d : SyncError) (tail : List ℕ)
    → (stops : StopsInGive None start came written e) → AreAlone start came held
    → StopsAnswer stops.last.old (length stops.gives) (lines_pulled stops.gives + 1) stops.content
    (Some ((bytes_pulled stops.part ++ stops.last.bytes) ++ (bytes_pulled stops.later ++ tail))) d
    → PullsUpTo (known_run (bytes_pulled came ++ tail) written) start held d × HasGained start held (receipts_pulled came)
stopped_there start came held written e d tail stops alone cause =
    let there = alone_there start came stops.gives (stops.part ++ stops.last ∷ stops.later) held stops.whole alone in
    let parts = halves there.then stops.part (stops.last ∷ stops.later) held there.alone in
    let size = length-map stops.gives (λ (g : PulledGive). g.give) in
    let few : length stops.gives < 256 = stops.few in
    let gives = gives_of stops.gives in
    let state = after_gives (state_of start) gives in
    let bytes = bytes_pulled stops.part ++ stops.last.bytes in
    let rest = bytes_pulled stops.later ++ tail in
    let then_is = held_there start stops.gives there.then parts.then stops.part stops.content there.whole parts.before_it stops.takes in
    let old_is : stops.last.old ≡ meaning_of_state start.config (joined state stops.content) = parts.after_it.0 ∙ then_is in
    let split : bytes_pulled came ++ tail ≡ flat_map give_text gives ++ (bytes ++ rest) =
    ap (λ (l : List ℕ). l ++ tail) (there.text
    ∙ ap (λ (l : List ℕ). flat_map give_text gives ++ l)
    (flat_map-append (λ (c : PulledPiece). c.bytes) stops.part (stops.last ∷ stops.later)
    ∙ sym (append_assoc (bytes_pulled stops.part) stops.last.bytes (bytes_pulled stops.later))))
    ∙ append_assoc (flat_map give_text gives) (bytes ++ bytes_pulled stops.later) tail
    ∙ ap (λ (l : List ℕ). flat_map give_text gives ++ l) (append_assoc bytes (bytes_pulled stops.later) tail) in (
      record {
        gives = gives;
        left = Some (bytes ++ rest);
        session = record { each = there.whole.each; text = split };
        few = omega (arith, size, few);
        content = stops.content;
        cause = subst (λ (b : ℕ). RefusesGiveAbout start.config state b (lines_pulled stops.gives + 1) stops.content (Some (bytes ++ rest)) d) (sym size)
            (cause_there stops.last.old start.config state (length stops.gives) (lines_pulled stops.gives + 1) stops.content (Some (bytes ++ rest)) d old_is
            cause);
        meaning = alone_takes parts.then (stops.last ∷ stops.later) held [] parts.after_it stops.quiet ∙ then_is;
        asked = written_all d (Some []) (Some written) _ (stops.asked ∙ ap (flat_map have_text) (next_have start stops.gives there.then there.whole));
      },
      gained_there start came stops.gives (stops.part ++ stops.last ∷ stops.later) (entries_of stops.content ++ []) held stops.whole
          (takes_both stops.part (stops.last ∷ stops.later) (entries_of stops.content) [] stops.takes stops.quiet) alone,
    )

-- It is the one that was found, as soon as a line feed comes.
pub stopped_pulled : (start : Meaning) (came : List PulledPiece) (held : Meaning) (written : List ℕ) (e : SyncError) (more after : List ℕ)
    → StopsInGive None start came written e → AreAlone start came held
    → PullsUpTo (known_run (bytes_pulled came ++ (more ++ (10 ∷ after))) written) start held e × HasGained start held (receipts_pulled came)
stopped_pulled start came held written e more after stops alone =
    stopped_there start came held written e e (more ++ (10 ∷ after)) stops alone
    (subst (λ (l : List ℕ). StopsAnswer stops.last.old (length stops.gives) (lines_pulled stops.gives + 1) stops.content
    (Some ((bytes_pulled stops.part ++ stops.last.bytes) ++ l)) e) (append_assoc (bytes_pulled stops.later) more (10 ∷ after))
    (stops.cause (bytes_pulled stops.later ++ more) after))

-- The texts of two lists of haves begin with those of the first.
texts_begin : (first second : List HaveMessage) → take (length (flat_map have_text first)) (flat_map have_text (first ++ second)) ≡ flat_map have_text first
texts_begin first second =
    let text = flat_map have_text first in
    ap (take (length text)) (flat_map-append have_text first second)
    ∙ take-append-le (length text) text (flat_map have_text second) (omega arith)
    ∙ take_all (length text) text (omega arith)

-- If memory ran out for a have, the session ends before it.
pub unasked_pulled : (start : Meaning) (came : List PulledPiece) (held : Meaning) (written : List ℕ) (e : SyncError) (tail : List ℕ)
    → StopsAsking None start came written e → AreAlone start came held
    → PullsUpTo (known_run (bytes_pulled came ++ tail) written) start held e × HasGained start held (receipts_pulled came)
unasked_pulled start came held written e tail stops alone =
    let there = alone_there start came stops.gives (stops.part ++ stops.last ∷ stops.later) held stops.whole alone in
    let size = length-map stops.gives (λ (g : PulledGive). g.give) in
    let few : length stops.gives + 1 < 256 = stops.few in
    let gives = gives_of stops.gives in
    let give = stops.give in
    let state = after_gives (state_of start) gives in
    let longer = length-append gives (give ∷ []) in
    let rest = stops.behind ++ (bytes_pulled stops.later ++ tail) in
    let order = append_assoc stops.part (stops.last ∷ []) stops.later in
    let one = halves there.then (stops.part ++ stops.last ∷ []) stops.later held
    (subst (λ (l : List PulledPiece). AreAlone there.then l held) (sym order) there.alone) in
    let then_is = held_there start stops.gives there.then one.then (stops.part ++ stops.last ∷ []) give.content there.whole one.before_it stops.takes in
    let all_states : after_gives (state_of start) (gives ++ give ∷ []) ≡ joined state give.content =
    fold-append (λ (before : State) (g : GiveMessage). joined before g.content) (state_of start) gives (give ∷ []) in
    let asked_is : haves_asked None start stops.gives ≡ haves_of start.config 0 (state_of start) (gives ++ give ∷ []) =
    next_have start stops.gives there.then there.whole
    ∙ sym (haves_more start.config 0 (length gives) (state_of start) gives give (omega arith)) in
    let next = have_in start.config (after_gives (state_of start) (gives ++ give ∷ [])) (length (gives ++ give ∷ [])) ∷ [] in
    let asked : written ≡ flat_map have_text (haves_of start.config 0 (state_of start) (gives ++ give ∷ [])) =
    stops.asked ∙ ap (flat_map have_text) asked_is in
    let split : bytes_pulled came ++ tail ≡ flat_map give_text (gives ++ give ∷ []) ++ rest =
    ap (λ (l : List ℕ). l ++ tail) (there.text
    ∙ ap (λ (l : List ℕ). flat_map give_text gives ++ l)
    (flat_map-append (λ (c : PulledPiece). c.bytes) stops.part (stops.last ∷ stops.later)
    ∙ sym (append_assoc (bytes_pulled stops.part) stops.last.bytes (bytes_pulled stops.later))
    ∙ ap (λ (l : List ℕ). l ++ bytes_pulled stops.later) stops.text))
    ∙ append_assoc (flat_map give_text gives) ((give_text give ++ stops.behind) ++ bytes_pulled stops.later) tail
    ∙ ap (λ (l : List ℕ). flat_map give_text gives ++ l)
    (append_assoc (give_text give ++ stops.behind) (bytes_pulled stops.later) tail
    ∙ append_assoc (give_text give) stops.behind (bytes_pulled stops.later ++ tail))
    ∙ sym (append_assoc (flat_map give_text gives) (give_text give) rest)
    ∙ ap (λ (l : List ℕ). (flat_map give_text gives ++ l) ++ rest) (sym (append-nil (give_text give)))
    ∙ ap (λ (l : List ℕ). l ++ rest) (sym (flat_map-append give_text gives (give ∷ []))) in
    let about : IsGiveAbout start.config (length gives) give = subst (λ (b : ℕ). IsGiveAbout start.config b give) (sym size) stops.about in (
      record {
        gives = gives ++ give ∷ [];
        left = Some rest;
        session = record {
          each = gives_more start.config 0 (length gives) gives give (omega arith) there.whole.each about;
          text = split;
        };
        few = omega (arith, size, few, longer);
        content = no_state;
        cause = subst (λ (d : SyncError). RefusesGiveAbout start.config (after_gives (state_of start) (gives ++ give ∷ [])) (length (gives ++ give ∷ []))
            (line_count (gives ++ give ∷ []) + 1) no_state (Some rest) d) (sym stops.cause) (inl (record { after = None; cause = tt; none = refl }));
        meaning = alone_takes one.then stops.later held [] one.after_it stops.quiet ∙ then_is
            ∙ ap (meaning_of_state start.config) (sym all_states);
        asked = subst (λ (d : SyncError). IsWritten d (Some []) (Some written)
            (flat_map have_text (haves_of start.config 0 (state_of start) (gives ++ give ∷ []) ++ next))) (sym stops.cause) (
              length (flat_map have_text (haves_of start.config 0 (state_of start) (gives ++ give ∷ []))),
              asked ∙ sym (texts_begin (haves_of start.config 0 (state_of start) (gives ++ give ∷ [])) next),
            );
      },
      gained_there start came stops.gives (stops.part ++ stops.last ∷ stops.later) (entries_of give.content ++ []) held stops.whole
          (subst (λ (l : List PulledPiece). TakesInTurn l (entries_of give.content ++ [])) order
          (takes_both (stops.part ++ stops.last ∷ []) stops.later (entries_of give.content) [] stops.takes stops.quiet)) alone,
    )

-- ---- the machine

-- What a session that reached its end did.
pub over_pulls : (f : Option SyncError) (answered : ℕ) (lines : AnswerLines) (m held : Meaning) (came : List PulledPiece) (rest written due : List ℕ)
    (count : ℕ) → f ≡ None → lines.bucket ≡ 256 → due ≡ [] → count ≡ receipts_pulled came
    → PullsPieces None f answered lines m came rest (written ++ due) → AreAlone m came held
    → Pulls (known_run (bytes_pulled came) written) m held (Ok count)
over_pulls None answered lines m held came rest written due count sound over idle taken (inl on) alone =
    absurd (let below = on.below in omega (arith, below, over))
over_pulls None answered lines m held came rest written due count sound over idle taken (inr all) alone =
    let there = subst (HasPulledAll None lines m came) (ap (λ (l : List ℕ). written ++ l) idle ∙ append-nil written) all in (
      all_pulled lines m came held written there alone,
      subst (HasGained m held) (sym taken) (gained_there m came all.gives all.later [] held all.whole all.takes alone),
    )
over_pulls (Some e) answered lines m held came rest written due count sound over idle taken pulls alone = absurd (cc)

-- What a session did whose stream ends before that.
pub cut_pulls : (f : Option SyncError) (answered : ℕ) (lines : AnswerLines) (m held : Meaning) (came : List PulledPiece) (rest written due : List ℕ) (count : ℕ)
    → f ≡ None → (lines.bucket ≡ 256 → ⊥) → due ≡ [] → count ≡ receipts_pulled came
    → (lines.is_begun ≡ true → 0 < lines.due.receipts + lines.due.records) → HasNoFeed rest
    → PullsPieces None f answered lines m came rest (written ++ due) → AreAlone m came held
    → Pulls (known_run (bytes_pulled came) written) m held (Err (record { why = Truncated; taken = count }))
cut_pulls None answered lines m held came rest written due count sound more idle taken some plain (inl on) alone =
    let there = subst (ContinuesPulling None answered lines m came rest) (ap (λ (l : List ℕ). written ++ l) idle ∙ append-nil written) on in
    let cut = cut_pulled answered lines m came held rest written some plain there alone in
    (cut.0, subst (HasGained m held) (sym taken) cut.1)
cut_pulls None answered lines m held came rest written due count sound more idle taken some plain (inr all) alone = absurd (more all.bucket)
cut_pulls (Some e) answered lines m held came rest written due count sound more idle taken some plain pulls alone = absurd (cc)

-- What a session did that an error ended.
pub stopped_pulls : (f : Option SyncError) (answered : ℕ) (lines : AnswerLines) (m held : Meaning) (came : List PulledPiece)
    (rest written due more after : List ℕ) (count : ℕ) (e : SyncError) → f ≡ Some e → (f ≢ None → due ≡ []) → count ≡ receipts_pulled came
    → PullsPieces None f answered lines m came rest (written ++ due) → AreAlone m came held
    → Pulls (known_run (bytes_pulled came ++ (more ++ (10 ∷ after))) written) m held (Err (record { why = e; taken = count }))
stopped_pulls None answered lines m held came rest written due more after count e stopped idle taken pulls alone = absurd (cc)
stopped_pulls (Some d) answered lines m held came rest written due more after count e stopped idle taken (inl stops) alone =
    let none : due ≡ [] = idle (λ is. absurd (cc)) in
    let there = subst (λ (l : List ℕ). StopsInGive None m came l d) (ap (λ (l : List ℕ). written ++ l) none ∙ append-nil written) stops in
    let same : d ≡ e = cc in
    let did = stopped_pulled m came held written e more after (subst (StopsInGive None m came written) same there) alone in
    (did.0, subst (HasGained m held) (sym taken) did.1)
stopped_pulls (Some d) answered lines m held came rest written due more after count e stopped idle taken (inr stops) alone =
    let none : due ≡ [] = idle (λ is. absurd (cc)) in
    let there = subst (λ (l : List ℕ). StopsAsking None m came l d) (ap (λ (l : List ℕ). written ++ l) none ∙ append-nil written) stops in
    let same : d ≡ e = cc in
    let did = unasked_pulled m came held written e (more ++ (10 ∷ after)) (subst (StopsAsking None m came written) same there) alone in
    (did.0, subst (HasGained m held) (sym taken) did.1)
