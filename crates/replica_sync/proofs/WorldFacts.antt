-- What a pull holds is what its replica holds in a world in which the same was asked, answered and
-- taken.
use Rattle.std.proofs.Common.{◌≡◌, ◌≢◌, ◌∙◌, ℕ, ◌+◌, ◌-◌, ◌*◌, ◌<◌, ◌≤◌, Bool, true, List, [], ◌∷◌, ◌++◌, length, map, take, inl}
use Rattle.std.proofs.Common.{inr, refl, sym, ap, subst}
use Rattle.std.proofs.Common.{arith, le-leb, append-nil, append_assoc, length-append, Option, None, Some}
use Rattle.std.specs.Prelude.{slice_get}
use Rattle.std.proofs.lemmas.Bool.{and_from, cases_lt}
use Rattle.std.specs.List.{AllByRecursion}
use Rattle.std.specs.Io.KnownBytes.{Consumes}
use Rattle.std.proofs.lemmas.List.{length-map, take_all}
use Rattle.std.proofs.lemmas.List.Sums.{fold-append}
use Rattle.fed_config.specs.Configuration.{Configuration, config_id_of}
use Rattle.receipt_core.specs.declared.distrust.Distrust.{Distrust}
use Rattle.receipt_core.specs.Receipt.{Receipt, IsDistrust, IsReceipt, distrust_line, line}
use Rattle.receipt_core.proofs.LineFacts.{one_line, one_record}
use Rattle.receipt_core.specs.Acceptance.{Meaning, IsMeaning}
use Rattle.replica_core.specs.State.{State, first_of, ids_named, is_within_limits, joined, limits_of, meaning_of_state, no_state}
use Rattle.replica_core.specs.Session.{HaveMessage, GiveMessage, give_of, state_of}
use Rattle.replica_core.specs.World.{Message, Rules, World, give_sent, apply, gained, happens, have_sent, run_from}
use Rattle.replica_core.specs.World.{takes_part, where_so, with_state}
use Rattle.replica_core.specs.declared.event.Event.TheVariants.{Ask, Answer, Absorb, Part}
use Rattle.replica_core.proofs.ContainsFacts.{get-new}
use Rattle.replica_core.proofs.EventFacts.{at-here, at-other, replica-true}
use Rattle.replica_core.proofs.ExchangeFacts.{absorbed-is, answered-is, asked-is, content_of, with_message}
use Rattle.replica_core.specs.declared.error.SyncError.{SyncError}
use Rattle.replica_core.specs.declared.error.SyncError.TheVariants.{Io, NoMemory}
use Rattle.replica_sync.specs.SessionRun.{known_run}
use Rattle.replica_texts.specs.Snapshots.{ended, text_of_lines}
use Rattle.replica_texts.specs.Messages.{give_text}
use Rattle.replica_texts.specs.Gives.{GiveBegins, content_lines}
use Rattle.replica_sync.specs.Events.{EndsCut, Link, cut_exchange, whole_exchange, whole_exchanges}
use Rattle.replica_sync.specs.Pulling.{AreGives, IsGiveAbout, PullsAll, PullsUpTo, RefusesGiveAbout, after_gives, line_count, have_in, haves_of}
use Rattle.replica_sync.specs.Serving.{ServesAll}
use Rattle.replica_sync.proofs.SessionFacts.{both-gives, joined-texts, give_texts}
use Rattle.replica_texts.proofs.GiveFacts.{is-part, same-give}
use Rattle.replica_sync.proofs.OwnMessageFacts.{answer-given}
use Rattle.replica_sync.proofs.UnderstandingFacts.{all-asked, all-gives, last-asked, length-asked, own-have, part-asked, gives-in-turn, replied-is, whole-asked}
use Rattle.replica_sync.proofs.WelcomeFacts.{IsWithin, meaning-within, rising-after, rising-meaning, within-after, within-itself, within-joined}
use Rattle.fed_config.specs.declared.limits.Limits.{Limits}

-- ---- one event

-- i pulls from j
abbrev link_of : ℕ → ℕ → Link
link_of i j = record { puller = i; server = j }

-- A replica that takes the first lines of an answer within the limits joins these.
part-is : (rules : Rules) (w : World) (i j n k count : ℕ) (content : State) → i < rules.replicas → slice_get w.sent n ≡ Some (give_sent j k content)
    → is_within_limits (rules.limits i) (joined (w.now i) (first_of count content)) ≡ true
    → happens rules w (Part i n count) ≡ with_state w i (joined (w.now i) (first_of count content))
part-is rules w i j n k count content l e t =
    ap (λ (b : Bool). apply rules.limits w (where_so b (takes_part i count (slice_get w.sent n)))) (replica-true rules i l)
    ∙ ap (λ (f : Option Message). apply rules.limits w (takes_part i count f)) e
    ∙ ap (λ (b : Bool). gained b w i (joined (w.now i) (first_of count content))) t

-- ---- one exchange

module _ (rules : Rules) (i j : ℕ) (l : i < rules.replicas) (n : j < rules.replicas) (w : World) (bucket : ℕ) (low : bucket ≤ 255) where
  abbrev the_have : Message
  the_have = have_sent i bucket (ids_named (w.now i) bucket)

  abbrev the_content : State
  the_content = content_of (w.now j) bucket (ids_named (w.now i) bucket)

  abbrev asked_world : World
  asked_world = with_message w the_have

  abbrev answered_world : World
  answered_world = with_message asked_world (give_sent j (length w.sent) the_content)

  to-answered : run_from rules w (Ask i bucket ∷ Answer j (length w.sent) ∷ []) ≡ answered_world
  to-answered =
      ap (λ (v : World). happens rules v (Answer j (length w.sent))) (asked-is rules w i bucket l low)
      ∙ answered-is rules asked_world i j bucket (length w.sent) (ids_named (w.now i) bucket) n (get-new w.sent the_have)

  answer-there : slice_get answered_world.sent (length w.sent + 1) ≡ Some (give_sent j (length w.sent) the_content)
  answer-there =
      subst (λ (k : ℕ). slice_get answered_world.sent k ≡ Some (give_sent j (length w.sent) the_content))
      (length-append w.sent (the_have ∷ []))
      (get-new (w.sent ++ the_have ∷ []) (give_sent j (length w.sent) the_content))

  pub whole-is : is_within_limits (rules.limits i) (joined (w.now i) the_content) ≡ true
      → run_from rules w (whole_exchange (link_of i j) bucket (length w.sent)) ≡ with_state answered_world i (joined (w.now i) the_content)
  whole-is t =
      ap (λ (v : World). happens rules v (Absorb i (length w.sent + 1))) to-answered
      ∙ absorbed-is rules answered_world i j (length w.sent + 1) (length w.sent) the_content l answer-there t

  pub cut-is : (count : ℕ) → is_within_limits (rules.limits i) (joined (w.now i) (first_of count the_content)) ≡ true
      → run_from rules w (cut_exchange (link_of i j) bucket (length w.sent) count) ≡ with_state answered_world i (joined (w.now i) (first_of count the_content))
  cut-is count t =
      ap (λ (v : World). happens rules v (Part i (length w.sent + 1) count)) to-answered
      ∙ part-is rules answered_world i j (length w.sent + 1) (length w.sent) count the_content l answer-there t

  many-sent : length answered_world.sent ≡ length w.sent + 2
  many-sent =
      let one = length-append w.sent (the_have ∷ []) in
      let two = length-append (w.sent ++ the_have ∷ []) (give_sent j (length w.sent) the_content ∷ []) in
      omega (arith, one, two)

-- ---- a session

-- Replica i holds this state, j holds what k means, and this many messages were sent.
pub record IsAt (i j : ℕ) (k : Meaning) (w : World) (state : State) (sent : ℕ) : Type 0 where
  pub here : w.now i ≡ state
  pub there : w.now j ≡ state_of k
  pub many : length w.sent ≡ sent

-- each is what k answers to what is asked when those before it are held
abbrev pub GivesOf : Configuration → Meaning → ℕ → State → List GiveMessage → Type 0
GivesOf c k bucket state [] = Unit {0}
GivesOf c k bucket state (r ∷ rs) = (r ≡ give_of k (have_in c state bucket)) × GivesOf c k (bucket + 1) (joined state r.content) rs

-- no more than a replica holds
pub record IsSmall (limits : Limits) (state : State) : Type 0 where
  pub receipts : length state.held ≤ limits.receipts
  pub records : length state.records ≤ limits.records

-- What is within a state within the limits is within the limits.
small-within : (limits : Limits) (small large : State) → IsWithin small large → IsSmall limits large → is_within_limits limits small ≡ true
small-within limits small large part is =
    let less = part.few in
    let few = is.receipts in
    let less_records = part.few_records in
    let few_records = is.records in
    and_from _ _ (le-leb (length small.held) limits.receipts (omega (arith, less, few)))
    (le-leb (length small.records) limits.records (omega (arith, less_records, few_records)))

-- What is answered in the world is what the give has.
same-content : (i j : ℕ) (c : Configuration) (k : Meaning) (w : World) (state : State) (sent bucket : ℕ) (r : GiveMessage) → IsAt i j k w state sent
    → r ≡ give_of k (have_in c state bucket) → content_of (w.now j) bucket (ids_named (w.now i) bucket) ≡ r.content
same-content i j c k w state sent bucket r at is =
    (λ t. content_of (at.there t) bucket (ids_named (at.here t) bucket)) ∙ sym (ap (λ (a : GiveMessage). a.content) is)

module _ (rules : Rules) (i j : ℕ) (l : i < rules.replicas) (n : j < rules.replicas) (apart : j ≢ i) (c : Configuration) (k : Meaning) where
  one-exchange : (w : World) (state : State) (sent bucket : ℕ) (r : GiveMessage) → IsAt i j k w state sent
      → r ≡ give_of k (have_in c state bucket) → bucket ≤ 255 → is_within_limits (rules.limits i) (joined state r.content) ≡ true
      → IsAt i j k (run_from rules w (whole_exchange (link_of i j) bucket sent)) (joined state r.content) (sent + 2)
  one-exchange w state sent bucket r at is low room =
      let content = same-content i j c k w state sent bucket r at is in
      let taken : joined (w.now i) (the_content rules i j l n w bucket low) ≡ joined state r.content = (λ t. joined (at.here t) (content t)) in
      let run = ap (λ (s : ℕ). run_from rules w (whole_exchange (link_of i j) bucket s)) (sym at.many)
      ∙ whole-is rules i j l n w bucket low (ap (is_within_limits (rules.limits i)) taken ∙ room) in
      let two = many-sent rules i j l n w bucket low in
      let many = at.many in
      let sent_then = ap (λ (v : World). length v.sent) run in
      record {
        here = ap (λ (v : World). v.now i) run ∙ at-here i (joined (w.now i) (the_content rules i j l n w bucket low)) w.now ∙ taken;
        there = ap (λ (v : World). v.now j) run
            ∙ at-other j i (joined (w.now i) (the_content rules i j l n w bucket low)) w.now apart ∙ at.there;
        many = sent_then ∙ omega (arith, two, many);
      }

  -- this many whole exchanges
  run-all : (gives : List GiveMessage) (w : World) (state : State) (sent bucket : ℕ) → IsAt i j k w state sent → GivesOf c k bucket state gives
      → bucket + length gives ≤ 256 → IsSmall (rules.limits i) (after_gives state gives)
      → IsAt i j k (run_from rules w (whole_exchanges (link_of i j) (length gives) bucket sent)) (after_gives state gives) (sent + 2 * length gives)
  unfolding whole_exchanges
  run-all [] w state sent bucket at is few small =
      let many = at.many in
      record { here = at.here; there = at.there; many = omega (arith, many) }
  run-all (r ∷ gives) w state sent bucket at is few small =
      let one = one-exchange w state sent bucket r at is.0 (omega (arith, few))
      (small-within (rules.limits i) (joined state r.content) (after_gives state (r ∷ gives)) (within-after (joined state r.content) gives) small) in
      let later = run-all gives (run_from rules w (whole_exchange (link_of i j) bucket sent)) (joined state r.content) (sent + 2) (bucket + 1) one is.1
      (omega (arith, few)) small in
      let many = later.many in
      record { here = later.here; there = later.there; many = many ∙ omega arith }

-- ---- a whole pull

-- the answers that a pull got are those to its haves
pub answers-of : (c : Configuration) (k : Meaning) (bucket : ℕ) (state : State) (gives : List GiveMessage) (later : List HaveMessage)
    (others : List GiveMessage) → gives ++ others ≡ all-gives k (haves_of c bucket state gives ++ later) → GivesOf c k bucket state gives
answers-of c k bucket state [] later others e = tt
answers-of c k bucket state (r ∷ gives) later others e =
    let head : r ≡ give_of k (have_in c state bucket) = cc in
    let tail : gives ++ others ≡ all-gives k (haves_of c (bucket + 1) (joined state r.content) gives ++ later) = cc in
    (head, answers-of c k (bucket + 1) (joined state r.content) gives later others tail)

-- the answers of a whole pull are those that the other side gives to its haves
pub gives-given : (m k held : Meaning) (asked replied rest : List ℕ) (count : ℕ) → IsMeaning m → IsMeaning k → IsMeaning held
    → config_id_of m.config ≡ config_id_of k.config → ServesAll (known_run asked replied) k count
    → (pulls : PullsAll (known_run (replied ++ rest) asked) m held) → pulls.gives ≡ all-gives k (all-asked m pulls.gives ++ [])
gives-given m k held asked replied rest count valid other kept same all pulls =
    let haves = all-asked m pulls.gives ++ [] in
    let asks = whole-asked m held (Some (replied ++ rest)) asked valid kept pulls in
    let text = replied-is m k asked replied count haves same asks all in
    let many = length-map haves (give_of k) in
    let both = length-append (all-asked m pulls.gives) [] in
    let each = length-asked m.config 0 (state_of m) pulls.gives in
    both-gives m.config (replied ++ rest) pulls.gives (all-gives k haves) pulls.left (Some rest) pulls.session.each
    (gives-in-turn m.config k 0 haves other (sym same) asks.each) (omega (arith, many, both, each)) pulls.session.text
    (ap (λ (t : List ℕ). t ++ rest) text)

-- What the replica can mean is within its limits.
own-small : (m : Meaning) (rules : Rules) (i : ℕ) (state : State) → rules.limits i ≡ limits_of m.config
    → IsMeaning (meaning_of_state m.config state) → IsSmall (rules.limits i) state
own-small m rules i state own valid =
    subst (λ (limits : Limits). IsSmall limits state) (sym own) (record { receipts = valid.few; records = valid.few_records })

-- What a pull holds is what its replica holds after whole exchanges about all buckets.
pub pull-in-world : (m k held : Meaning) (rules : Rules) (i j : ℕ) (w : World) (asked replied rest : List ℕ) (count : ℕ)
    → i < rules.replicas → j < rules.replicas → i ≢ j → rules.limits i ≡ limits_of m.config
    → w.now i ≡ state_of m → w.now j ≡ state_of k → IsMeaning m → IsMeaning k → IsMeaning held
    → config_id_of m.config ≡ config_id_of k.config → ServesAll (known_run asked replied) k count
    → PullsAll (known_run (replied ++ rest) asked) m held
    → (run_from rules w (whole_exchanges (link_of i j) 256 0 (length w.sent))).now i ≡ state_of held
pull-in-world m k held rules i j w asked replied rest count l h apart own here there valid other kept same all pulls =
    let gives = pulls.gives in
    let equal = gives-given m k held asked replied rest count valid other kept same all pulls in
    let all_of_it = pulls.all in
    let final : IsMeaning (meaning_of_state m.config (after_gives (state_of m) gives)) = subst IsMeaning pulls.meaning kept in
    let run = run-all rules i j l h (λ e. apart (sym e)) m.config k gives w (state_of m) (length w.sent) 0
    (record { here = here; there = there; many = refl })
    (answers-of m.config k 0 (state_of m) gives [] [] (append-nil gives ∙ equal)) (omega (arith, all_of_it))
    (own-small m rules i (after_gives (state_of m) gives) own final) in
    subst (λ (b : ℕ). (run_from rules w (whole_exchanges (link_of i j) b 0 (length w.sent))).now i ≡ after_gives (state_of m) gives)
    all_of_it run.here ∙ ap state_of (sym pulls.meaning)

-- ---- a pull that was cut

-- The others are the first of the gives, and what is left begins with the later ones.
record IsFront (gives others : List GiveMessage) (rest left : List ℕ) : Type 0 where
  pub later : List GiveMessage
  pub whole : gives ≡ others ++ later
  pub follows : left ≡ give_texts later ++ rest

-- what was taken whole are the first of the answers that were written
first-gives : (c : Configuration) (start : ℕ) (gives others : List GiveMessage) (rest left : List ℕ) → AreGives c start gives
    → AreGives c start others → length others ≤ length gives → give_texts gives ++ rest ≡ give_texts others ++ left
    → IsFront gives others rest left
first-gives c start gives [] rest left is valid few e = record { later = gives; whole = refl; follows = sym e }
first-gives c start [] (o ∷ others) rest left is valid few e = absurd (omega (arith, few))
first-gives c start (r ∷ gives) (o ∷ others) rest left is valid few e =
    let same = same-give (give_texts (r ∷ gives) ++ rest) r o (give_texts gives ++ rest) (give_texts others ++ left)
    is.0.form valid.0.form (joined-texts r gives rest) (e ∙ joined-texts o others left) in
    let front = first-gives c (start + 1) gives others rest left is.1 valid.1 (omega (arith, few)) same.follows in
    record { later = front.later; whole = (λ t. same.give t ∷ front.whole t); follows = front.follows }

-- after this many answers one is left
last-one : (k : Meaning) (qs : List HaveMessage) (q : HaveMessage) (others later : List GiveMessage) → length others ≡ length qs
    → all-gives k (qs ++ q ∷ []) ≡ others ++ later → later ≡ give_of k q ∷ []
last-one k [] q [] later n e = sym e
last-one k [] q (o ∷ others) later n e = absurd (omega (arith, n))
last-one k (x ∷ qs) q [] later n e = absurd (omega (arith, n))
last-one k (x ∷ qs) q (o ∷ others) later n e =
    let tail : all-gives k (qs ++ q ∷ []) ≡ others ++ later = cc in
    last-one k qs q others later (omega (arith, n)) tail

-- the first receipts
front-receipts : (rs ss : List Receipt) (us vs : List (List ℕ)) → AllByRecursion IsReceipt rs → AllByRecursion IsReceipt ss
    → map line rs ++ us ≡ map line ss ++ vs → length rs ≤ length ss → rs ≡ take (length rs) ss
front-receipts [] ss us vs p q e few = refl
front-receipts (r ∷ rs) [] us vs p q e few = absurd (omega (arith, few))
front-receipts (r ∷ rs) (s ∷ ss) us vs p q e few =
    let head : line r ≡ line s = cc in
    let tail : map line rs ++ us ≡ map line ss ++ vs = cc in
    let later = front-receipts rs ss us vs p.1 q.1 tail (omega (arith, few)) in
    (λ t. one_line r s p.0 q.0 head t ∷ later t)

-- The lists are the first of the others.
record AreFirst (xs ys : List Distrust) (rs ss : List Receipt) : Type 0 where
  pub records : xs ≡ take (length xs) ys
  pub receipts : rs ≡ take (length rs) ss

-- Content whose lines are the first ones of another is its beginning.
front-content : (xs ys : List Distrust) (rs ss : List Receipt) (us vs : List (List ℕ)) → AllByRecursion IsDistrust xs
    → AllByRecursion IsDistrust ys → AllByRecursion IsReceipt rs → AllByRecursion IsReceipt ss
    → map distrust_line xs ++ (map line rs ++ us) ≡ map distrust_line ys ++ (map line ss ++ vs)
    → length xs ≤ length ys → (length xs < length ys → rs ≡ []) → length rs ≤ length ss → AreFirst xs ys rs ss
front-content [] [] rs ss us vs p q h k e few none less = record { records = refl; receipts = front-receipts rs ss us vs h k e less }
front-content [] (y ∷ ys) rs ss us vs p q h k e few none less =
    let nothing = none (omega arith) in
    record { records = refl; receipts = nothing ∙ ap (λ (ts : List Receipt). take (length ts) ss) (sym nothing) }
front-content (x ∷ xs) [] rs ss us vs p q h k e few none less = absurd (omega (arith, few))
front-content (x ∷ xs) (y ∷ ys) rs ss us vs p q h k e few none less =
    let head : distrust_line x ≡ distrust_line y = cc in
    let tail : map distrust_line xs ++ (map line rs ++ us) ≡ map distrust_line ys ++ (map line ss ++ vs) = cc in
    let later = front-content xs ys rs ss us vs p.1 q.1 h k tail (omega (arith, few)) (λ m. none (omega (arith, m))) less in
    record { records = (λ t. one_record x y p.0 q.0 head t ∷ later.records t); receipts = later.receipts }

-- this many lines of the whole
first-lines : (whole content : State) → length content.records ≤ length whole.records
    → (length content.records < length whole.records → content.held ≡ [])
    → AreFirst content.records whole.records content.held whole.held
    → first_of (length content.records + length content.held) whole ≡ content
first-lines whole content few none first =
    elim (cases_lt (length content.records) (length whole.records)) [
      | inl less ↦
          let nothing = none less in
          let no_held : length content.held ≡ 0 = ap length nothing in
          let count : length content.records + length content.held ≡ length content.records = omega (arith, no_held) in
          let none_left : length content.records + length content.held - length whole.records ≡ 0 = omega (arith, no_held, less) in
          (λ t. record {
            held = (ap (λ (n : ℕ). take n whole.held) none_left ∙ sym nothing) t;
            records = (ap (λ (n : ℕ). take n whole.records) count ∙ sym first.records) t;
          })
      | inr all ↦
          let equal : length content.records ≡ length whole.records = omega (arith, all, few) in
          let rest : length content.records + length content.held - length whole.records ≡ length content.held = omega (arith, equal) in
          (λ t. record {
            held = (ap (λ (n : ℕ). take n whole.held) rest ∙ sym first.receipts) t;
            records = (take_all (length content.records + length content.held) whole.records (omega (arith, equal))
                ∙ sym (first.records ∙ take_all (length content.records) whole.records (omega (arith, equal)))) t;
          })
    ]

-- The first 0 lines have nothing.
no-lines : (whole : State) → first_of 0 whole ≡ no_state
no-lines whole =
    let none : 0 - length whole.records ≡ 0 = omega arith in
    (λ t. record { held = ap (λ (n : ℕ). take n whole.held) none t; records = [] })

-- The content is the first this many lines of the whole.
record IsCut (whole content : State) : Type 0 where
  pub lines : ℕ
  pub is : first_of lines whole ≡ content

-- of an answer that was not taken to its end the first lines were taken
part-is-cut : (c : Configuration) (state : State) (bucket first : ℕ) (content : State) (left lost : List ℕ) (r : GiveMessage) (rest : List ℕ)
    (e : SyncError) → IsGiveAbout c bucket r → left ++ lost ≡ give_text r ++ rest
    → RefusesGiveAbout c state bucket first content (Some left) e → IsCut r.content content
part-is-cut c state bucket first content left lost r rest e is begins (inl head) =
    record { lines = 0; is = no-lines r.content ∙ sym head.none }
part-is-cut c state bucket first content left lost r rest e is begins (inr fault) =
    cut-after fault.count fault.distrusts fault.further fault.begins
  where
    cut-after : (count distrusts : ℕ) (further : Option (List ℕ))
        → GiveBegins (Some (record { config = c; bucket = bucket })) (Some left) count distrusts content further → IsCut r.content content
    cut-after count distrusts None b = absurd b.text
    cut-after count distrusts (Some further) b =
        let more : GiveBegins (Some (record { config = c; bucket = bucket })) (Some (left ++ lost)) count distrusts content (Some (further ++ lost)) =
        record {
          first = b.first;
          heads = b.heads;
          begun = b.begun;
          text = ap (λ (t : List ℕ). t ++ lost) b.text ∙ append_assoc (ended b.first ++ text_of_lines (content_lines content)) further lost;
        } in
        let part = is-part (Some (record { config = c; bucket = bucket })) (left ++ lost) r rest is.form is.about is.own begins
        count distrusts content (further ++ lost) more in
        let records = part.records in
        let receipts = part.receipts in
        let few = b.begun.records in
        let few_receipts = b.begun.receipts in
        let within : length content.records ≤ length r.content.records = omega (arith, records, few) in
        let order : length content.records < length r.content.records → content.held ≡ [] = λ less. b.begun.order (omega (arith, records, less)) in
        record {
          lines = length content.records + length content.held;
          is = first-lines r.content content within order
              (front-content content.records r.content.records content.held r.content.held _ _ b.begun.valid.records is.form.valid.records
              b.begun.valid.receipts is.form.valid.receipts
              (sym (append_assoc (map distrust_line content.records) (map line content.held) _) ∙ part.lines
              ∙ append_assoc (map distrust_line r.content.records) (map line r.content.held) _)
              within order (omega (arith, receipts, few_receipts)));
        }

-- After an exchange that was cut the puller has joined what came.
cut-exchange-is : (rules : Rules) (i j : ℕ) (l : i < rules.replicas) (n : j < rules.replicas) (c : Configuration) (k : Meaning)
    (w : World) (state : State) (sent bucket : ℕ) (r : GiveMessage) (content : State) → IsAt i j k w state sent
    → r ≡ give_of k (have_in c state bucket) → bucket ≤ 255 → is_within_limits (rules.limits i) (joined state content) ≡ true
    → (cut : IsCut r.content content) → (run_from rules w (cut_exchange (link_of i j) bucket sent cut.lines)).now i ≡ joined state content
cut-exchange-is rules i j l n c k w state sent bucket r content at is low room cut =
    let same = same-content i j c k w state sent bucket r at is in
    let taken : joined (w.now i) (first_of cut.lines (the_content rules i j l n w bucket low)) ≡ joined state content =
    (λ t. joined (at.here t) (first_of cut.lines (same t))) ∙ ap (joined state) cut.is in
    let run = ap (λ (s : ℕ). run_from rules w (cut_exchange (link_of i j) bucket s cut.lines)) (sym at.many)
    ∙ cut-is rules i j l n w bucket low cut.lines (ap (is_within_limits (rules.limits i)) taken ∙ room) in
    ap (λ (v : World). v.now i) run ∙ at-here i (joined (w.now i) (first_of cut.lines (the_content rules i j l n w bucket low))) w.now ∙ taken

-- What a pull holds that was cut is what its replica holds after whole exchanges and one that was cut.
pub cut-in-world : (m k held : Meaning) (rules : Rules) (i j : ℕ) (w : World) (asked replied rest bytes lost : List ℕ) (count : ℕ) (e : SyncError)
    → i < rules.replicas → j < rules.replicas → i ≢ j → rules.limits i ≡ limits_of m.config
    → w.now i ≡ state_of m → w.now j ≡ state_of k → IsMeaning m → IsMeaning k → IsMeaning held
    → config_id_of m.config ≡ config_id_of k.config → ServesAll (known_run asked replied) k count
    → bytes ++ lost ≡ replied ++ rest → PullsUpTo (known_run bytes asked) m held e → e ≢ Io → e ≢ NoMemory
    → EndsCut rules w (link_of i j) (state_of held)
cut-in-world m k held rules i j w asked replied rest bytes lost count e l h apart own here there valid other kept same all begins part calm ample =
    cut-at part.left part.session.text part.cause
  where
    cut-at : (left : Option (List ℕ)) → Consumes (Some bytes) left (give_texts part.gives)
        → RefusesGiveAbout m.config (after_gives (state_of m) part.gives) (length part.gives) (line_count part.gives + 1) part.content left e
        → EndsCut rules w (link_of i j) (state_of held)
    cut-at None text cause = absurd text
    cut-at (Some left) text cause =
        let state = after_gives (state_of m) part.gives in
        let haves = all-asked m part.gives ++ last-asked m part.gives in
        let asks = part-asked m held (Some bytes) asked e valid kept calm ample part in
        let give_header_text = replied-is m k asked replied count haves same asks all in
        let each = gives-in-turn m.config k 0 haves other (sym same) asks.each in
        let many = length-map haves (give_of k) in
        let both = length-append (all-asked m part.gives) (last-asked m part.gives) in
        let size = length-asked m.config 0 (state_of m) part.gives in
        let front = first-gives m.config 0 (all-gives k haves) part.gives rest (left ++ lost) each part.session.each
        (omega (arith, many, both, size))
        (sym (ap (λ (t : List ℕ). t ++ rest) give_header_text) ∙ sym begins ∙ ap (λ (t : List ℕ). t ++ lost) text
        ∙ append_assoc (give_texts part.gives) left lost) in
        let last = have_in m.config state (length part.gives) in
        let give = give_of k last in
        let one = last-one k (all-asked m part.gives) last part.gives front.later (sym size) front.whole in
        let final : IsMeaning (meaning_of_state m.config (joined state part.content)) = subst IsMeaning part.meaning kept in
        let now : IsMeaning (meaning_of_state m.config state) =
        meaning-within m.config state (joined state part.content) (within-joined state part.content)
        (rising-after (state_of m) part.gives (rising-meaning m valid)) final in
        let few = part.few in
        let is : IsGiveAbout m.config (length part.gives) give =
        record { own = sym same; about = refl; form = answer-given k last other (own-have m.config state (length part.gives) now few).askable } in
        let follows : left ++ lost ≡ give_text give ++ rest =
        front.follows ∙ ap (λ (ls : List GiveMessage). give_texts ls ++ rest) one ∙ ap (λ (t : List ℕ). t ++ rest) (append-nil (give_text give)) in
        let cut = part-is-cut m.config state (length part.gives) (line_count part.gives + 1) part.content left lost give rest e is follows cause in
        let room = small-within (rules.limits i) (joined state part.content) (joined state part.content) (within-itself (joined state part.content))
        (own-small m rules i (joined state part.content) own final) in
        let run = run-all rules i j l h (λ s. apart (sym s)) m.config k part.gives w (state_of m) (length w.sent) 0
        (record { here = here; there = there; many = refl })
        (answers-of m.config k 0 (state_of m) part.gives (last-asked m part.gives) front.later (sym front.whole)) (omega (arith, few))
        (own-small m rules i state own now) in
        record {
          buckets = length part.gives;
          few = few;
          lines = cut.lines;
          holds = ap (λ (v : World). v.now i)
              (fold-append (happens rules) w (whole_exchanges (link_of i j) (length part.gives) 0 (length w.sent))
              (cut_exchange (link_of i j) (length part.gives) (length w.sent + 2 * length part.gives) cut.lines))
              ∙ cut-exchange-is rules i j l h m.config k _ state (length w.sent + 2 * length part.gives)
              (length part.gives) give part.content run refl (omega (arith, few)) room cut
              ∙ ap state_of (sym part.meaning);
        }
