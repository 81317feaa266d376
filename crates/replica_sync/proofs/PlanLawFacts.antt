-- A session that asks about listed buckets, as messages.
use Rattle.std.proofs.Common.{◌≡◌, ◌∙◌, ℕ, ◌+◌, ◌<◌, ◌≤◌, List, [], ◌∷◌, ◌++◌, length, map, Option}
use Rattle.std.proofs.Common.{refl, sym, ap, subst, arith, append-nil}
use Rattle.std.specs.List.{AllByRecursion, flat_map}
use Rattle.std.proofs.lemmas.Grind.{flat_map-append}
use Rattle.std.proofs.lemmas.List.{length-map}
use Rattle.std.proofs.lemmas.List.Folds.{flat_map-map}
use Rattle.fed_config.specs.Configuration.{Configuration, config_id_of}
use Rattle.receipt_core.specs.Acceptance.{IsMeaning, Meaning}
use Rattle.replica_core.specs.Absorbing.{entries_of}
use Rattle.replica_core.specs.Session.{GiveMessage, HaveMessage, give_of, have_of, state_of}
use Rattle.replica_core.specs.State.{State, joined, meaning_of_state}
use Rattle.replica_texts.specs.Gives.{IsGive}
use Rattle.replica_texts.specs.Haves.{IsHaveOf}
use Rattle.replica_texts.specs.Messages.{give_text, have_text}
use Rattle.replica_texts.proofs.GiveFacts.{same-give}
use Rattle.replica_sync.specs.Plans.{bucket_at, asked_count}
use Rattle.replica_sync.specs.PulledPieces.{AreAlone, ArePulledGives, PulledGive, PulledPiece, bytes_pulled, gives_of, haves_planned, haves_pulled, pieces_of}
use Rattle.replica_sync.specs.Pulling.{after_gives, have_in}
use Rattle.replica_sync.specs.PullSessions.{HasPulledAll}
use Rattle.replica_sync.specs.ServedPieces.{HaveAndHeld, gives_in_turn}
use Rattle.replica_sync.specs.Serving.{ServesAll, gives_text}
use Rattle.replica_sync.specs.SessionRun.{known_run}
use Rattle.replica_sync.specs.declared.answer_lines.AnswerLines.{AnswerLines}
use Rattle.replica_sync.proofs.OwnMessageFacts.{answer-given}
use Rattle.replica_sync.proofs.PullLawFacts.{alone_last, alone_takes, halves, of_config, with_content}
use Rattle.replica_sync.proofs.ServeLawFacts.{haves_in}
use Rattle.replica_sync.proofs.SessionFacts.{give_texts, joined-texts, same-haves}
use Rattle.replica_sync.proofs.UnderstandingFacts.{all-gives, own-have}
use Rattle.replica_sync.proofs.WelcomeFacts.{IsRisingState, meaning-within, rising-joined, rising-meaning, within-after}

-- ---- whole answers

-- What whole answers bring and ask if nothing else changes what is held.
record PlanAlone (plan : Option (List ℕ)) (config : Configuration) (place : ℕ) (m : Meaning) (gives : List PulledGive) (after : Meaning) : Type 0 where
  pub text : bytes_pulled (flat_map pieces_of gives) ≡ flat_map give_text (gives_of gives)
  pub meaning : after ≡ meaning_of_state config (after_gives (state_of m) (gives_of gives))
  pub haves : haves_pulled plan m place gives ≡ haves_planned plan config place (state_of m) (gives_of gives)
  pub forms : AllByRecursion IsGive (gives_of gives)

plan_alone : (plan : Option (List ℕ)) (config : Configuration) (place : ℕ) (m : Meaning) (gives : List PulledGive) (after : Meaning)
    → m.config ≡ config → ArePulledGives plan config place gives → AreAlone m (flat_map pieces_of gives) after
    → PlanAlone plan config place m gives after
plan_alone plan config place m [] after own each alone = record {
  text = refl;
  meaning = alone ∙ of_config config m own;
  haves = refl;
  forms = tt;
}
plan_alone plan config place m (g ∷ gives) after own each alone =
    let parts = halves m (pieces_of g) (flat_map pieces_of gives) after alone in
    let content = g.give.content in
    let last : parts.then ≡ g.last.new = alone_last m g.before g.last parts.then parts.before_it in
    let taken : g.last.new ≡ meaning_of_state m.config (joined (state_of m) content) =
    sym last ∙ alone_takes m (pieces_of g) parts.then (entries_of content) parts.before_it each.0.takes ∙ with_content m content in
    let state : state_of g.last.new ≡ joined (state_of m) content = ap state_of taken in
    let rest = plan_alone plan config (place + 1) g.last.new gives after (ap (λ (k : Meaning). k.config) taken ∙ own) each.1
    (subst (λ (k : Meaning). AreAlone k (flat_map pieces_of gives) after) last parts.after_it) in
    record {
      text = flat_map-append (λ (c : PulledPiece). c.bytes) (pieces_of g) (flat_map pieces_of gives)
          ∙ ap (λ (l : List ℕ). l ++ bytes_pulled (flat_map pieces_of gives)) each.0.text
          ∙ ap (λ (l : List ℕ). give_text g.give ++ l) rest.text;
      meaning = rest.meaning ∙ ap (λ (s : State). meaning_of_state config (after_gives s (gives_of gives))) state;
      haves = ap (λ (k : Meaning). have_of k (bucket_at plan place) ∷ haves_pulled plan g.last.new (place + 1) gives) (of_config config m own)
          ∙ ap (λ (qs : List HaveMessage). have_in config (state_of m) (bucket_at plan place) ∷ qs)
          (rest.haves ∙ ap (λ (s : State). haves_planned plan config (place + 1) s (gives_of gives)) state);
      forms = (each.0.about.form, rest.forms);
    }

-- What a session brought and asked that is over.
pub record PlanDone (plan : Option (List ℕ)) (m held : Meaning) (came : List PulledPiece) (written : List ℕ) : Type 0 where
  pub gives : List GiveMessage
  pub many : length gives ≡ asked_count plan
  pub text : bytes_pulled came ≡ give_texts gives
  pub meaning : held ≡ meaning_of_state m.config (after_gives (state_of m) gives)
  pub asked : written ≡ flat_map have_text (haves_planned plan m.config 0 (state_of m) gives)
  pub forms : AllByRecursion IsGive gives

pub plan_done : (plan : Option (List ℕ)) (lines : AnswerLines) (m held : Meaning) (came : List PulledPiece) (written : List ℕ)
    → HasPulledAll plan lines m came written → AreAlone m came held → PlanDone plan m held came written
plan_done plan lines m held came written all alone =
    let parts = halves m (flat_map pieces_of all.gives) all.later held
    (subst (λ (l : List PulledPiece). AreAlone m l held) all.whole.order alone) in
    let there = plan_alone plan m.config 0 m all.gives parts.then refl all.whole.each parts.before_it in
    record {
      gives = gives_of all.gives;
      many = length-map all.gives (λ (g : PulledGive). g.give) ∙ all.all;
      text = ap bytes_pulled all.whole.order
          ∙ flat_map-append (λ (c : PulledPiece). c.bytes) (flat_map pieces_of all.gives) all.later
          ∙ ap (λ (l : List ℕ). l ++ bytes_pulled all.later) there.text
          ∙ ap (λ (l : List ℕ). flat_map give_text (gives_of all.gives) ++ l) all.none
          ∙ append-nil (flat_map give_text (gives_of all.gives));
      meaning = alone_takes parts.then all.later held [] parts.after_it all.takes ∙ there.meaning;
      asked = all.asked ∙ ap (flat_map have_text) there.haves;
      forms = there.forms;
    }

-- ---- what the other side answers

-- all places of the plan have buckets below 256
abbrev pub AreBelow : Option (List ℕ) → Type 0
AreBelow plan = (place : ℕ) → place < asked_count plan → bucket_at plan place < 256

-- The haves are of each configuration with this digest.
haves_own : (plan : Option (List ℕ)) (c d : Configuration) (place : ℕ) (state : State) (gives : List GiveMessage) → AreBelow plan
    → config_id_of c ≡ config_id_of d → IsRisingState state → IsMeaning (meaning_of_state c (after_gives state gives))
    → place + length gives ≤ asked_count plan → AllByRecursion (IsHaveOf d) (haves_planned plan c place state gives)
haves_own plan c d place state [] below same rising valid few = tt
haves_own plan c d place state (r ∷ gives) below same rising valid few =
    let one = own-have c state (bucket_at plan place)
    (meaning-within c state (after_gives state (r ∷ gives)) (within-after state (r ∷ gives)) rising valid)
    (below place (omega (arith, few))) in (
      record { askable = one.askable; own = one.own ∙ same },
      haves_own plan c d (place + 1) (joined state r.content) gives below same (rising-joined state r.content rising) valid (omega (arith, few)),
    )

-- What is answered to haves are answers.
gives_formed : (k : Meaning) (haves : List HaveMessage) → IsMeaning k → AllByRecursion (IsHaveOf k.config) haves
    → AllByRecursion IsGive (all-gives k haves)
gives_formed k [] valid each = tt
gives_formed k (q ∷ haves) valid each = (answer-given k q valid each.0.askable, gives_formed k haves valid each.1)

-- Two lists of answers with which a stream begins are one list, if they have one length.
pub one_list : (gives others : List GiveMessage) (rest left : List ℕ) → AllByRecursion IsGive gives → AllByRecursion IsGive others
    → length gives ≡ length others → give_texts gives ++ rest ≡ give_texts others ++ left → gives ≡ others
one_list [] [] rest left is valid many w = refl
one_list [] (o ∷ others) rest left is valid many w = absurd (omega (arith, many))
one_list (r ∷ gives) [] rest left is valid many w = absurd (omega (arith, many))
one_list (r ∷ gives) (o ∷ others) rest left is valid many w =
    let same = same-give (give_texts (r ∷ gives) ++ rest) r o (give_texts gives ++ rest)
    (give_texts others ++ left) is.0 valid.0 (joined-texts r gives rest)
    (w ∙ joined-texts o others left) in
    let later = one_list gives others rest left is.1 valid.1 (omega (arith, many)) same.follows in
    (λ i. same.give i ∷ later i)

-- There is one have for each answer.
length_planned : (plan : Option (List ℕ)) (c : Configuration) (place : ℕ) (state : State) (gives : List GiveMessage)
    → length (haves_planned plan c place state gives) ≡ length gives
length_planned plan c place state [] = refl
length_planned plan c place state (r ∷ gives) = let later = length_planned plan c (place + 1) (joined state r.content) gives in omega (arith, later)

-- If the other side served what was asked, and its answers are what came, they are those that it gives.
pub plan_answered : (plan : Option (List ℕ)) (m k held : Meaning) (came : List PulledPiece) (written replied rest : List ℕ) (count : ℕ)
    → AreBelow plan → IsMeaning m → IsMeaning k → IsMeaning held → config_id_of m.config ≡ config_id_of k.config
    → (done : PlanDone plan m held came written) → ServesAll (known_run written replied) k count → bytes_pulled came ++ rest ≡ replied
    → done.gives ≡ all-gives k (haves_planned plan m.config 0 (state_of m) done.gives)
plan_answered plan m k held came written replied rest count below valid other kept same done all begins =
    let gives = done.gives in
    let haves = haves_planned plan m.config 0 (state_of m) gives in
    let many = done.many in
    let each = haves_own plan m.config k.config 0 (state_of m) gives below same (rising-meaning m valid) (subst IsMeaning done.meaning kept)
    (omega (arith, many)) in
    let one = same-haves k.config haves all.haves each all.each (sym done.asked ∙ all.text) in
    let text : replied ≡ give_texts (all-gives k haves) =
    all.written ∙ ap (gives_text k) (sym one) ∙ sym (flat_map-map give_text (give_of k) haves) in
    let asked = length_planned plan m.config 0 (state_of m) gives in
    let answers = length-map haves (give_of k) in
    one_list gives (all-gives k haves) rest [] done.forms (gives_formed k haves other each) (omega (arith, asked, answers))
    (ap (λ (l : List ℕ). l ++ rest) (sym done.text) ∙ begins ∙ text ∙ sym (append-nil (give_texts (all-gives k haves))))

-- What is answered to each have, of what was held when it ended.
abbrev pub gives_each : List HaveAndHeld → List GiveMessage
gives_each asked = map (λ (a : HaveAndHeld). give_of a.held a.have) asked

-- The haves and the answers of a session are those that the other side took and made.
pub record AreAnswered (plan : Option (List ℕ)) (c : Configuration) (m : Meaning) (gives : List GiveMessage) (asked : List HaveAndHeld) : Type 0 where
  pub haves : haves_planned plan c 0 (state_of m) gives ≡ haves_in asked
  pub gives_are : gives ≡ gives_each asked

-- If the other side answered what was asked, of whatever it held, and its answers are what came, they are those that it gave.
pub plan_answered_each : (plan : Option (List ℕ)) (m held : Meaning) (d : Configuration) (came : List PulledPiece) (written replied rest : List ℕ)
    (asked : List HaveAndHeld) → AreBelow plan → IsMeaning m → IsMeaning held → config_id_of m.config ≡ config_id_of d
    → (done : PlanDone plan m held came written) → AllByRecursion (IsHaveOf d) (haves_in asked) → written ≡ flat_map have_text (haves_in asked)
    → AllByRecursion IsGive (gives_each asked) → replied ≡ gives_in_turn asked → bytes_pulled came ++ rest ≡ replied
    → AreAnswered plan m.config m done.gives asked
plan_answered_each plan m held d came written replied rest asked below valid kept same done own text forms said begins =
    let gives = done.gives in
    let haves = haves_planned plan m.config 0 (state_of m) gives in
    let many = done.many in
    let each = haves_own plan m.config d 0 (state_of m) gives below same (rising-meaning m valid) (subst IsMeaning done.meaning kept)
    (omega (arith, many)) in
    let one = same-haves d haves (haves_in asked) each own (sym done.asked ∙ text) in
    let planned = length_planned plan m.config 0 (state_of m) gives in
    let taken = ap length one in
    let number = length-map asked (λ (a : HaveAndHeld). a.have) in
    let answers = length-map asked (λ (a : HaveAndHeld). give_of a.held a.have) in
    record {
      haves = one;
      gives_are = one_list gives (gives_each asked) rest [] done.forms forms (omega (arith, planned, taken, number, answers))
          (ap (λ (l : List ℕ). l ++ rest) (sym done.text) ∙ begins ∙ said
          ∙ sym (flat_map-map give_text (λ (a : HaveAndHeld). give_of a.held a.have) asked) ∙ sym (append-nil (give_texts (gives_each asked))));
    }
