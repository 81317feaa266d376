-- A text says one list of polls at most, and what is refused says none
use Rattle.std.proofs.Common.{◌≡◌, ℕ, inl, inr, Bool, true, false, List, [], ◌∷◌, ◌++◌, refl, sym, ap, ap₂, ◌∙◌, subst}
use Rattle.std.specs.List.{AllZip}
use Rattle.std.specs.Fmt.{signed_decimal}
use Rattle.fed_config.specs.Configuration.{Configuration, IsConfiguration}
use Rattle.byte_lines.specs.Lines.{lines_of}
use Rattle.poll_log.specs.Polling.{Poll, PollStatus, log_of, polled}
use Rattle.poll_log.specs.Inside.Statuses.{AreNames}
use Rattle.poll_log.specs.PollLines.{FirstBad, HasMoment, IsLogOf, RefusesPolls, SaysPoll, SaysLine, SaysNoMoment, SaysNoPoll, SaidPoll, outcome_text, poll_of}
use Rattle.poll_log.specs.declared.error.PollError.{PollError}
use Rattle.poll_log.specs.declared.error.PollError.TheVariants.{NoRelationship, PastRange, NoMemory, BadLine, BadMoment, Io}
use Rattle.poll_log.proofs.PollFacts.{each_name}
use Rattle.poll_log.proofs.PollLineFacts.{one_word, plain_name, plain_outcome}
use Rattle.poll_log.proofs.SecondsFacts.{one_text}

-- outcomes with one text are equal
one_outcome : (a b : Bool) → outcome_text a ≡ outcome_text b → a ≡ b
one_outcome true true e = refl
one_outcome true false e = cc
one_outcome false true e = cc
one_outcome false false e = refl

-- a line says one thing at most
one_stated : (domains : List (List ℕ)) (text : List ℕ) (s t : SaidPoll) → AreNames domains → SaysLine domains text s → SaysLine domains text t → s ≡ t
one_stated domains text s t names p q =
    let words = one_word s.domain t.domain _ _ (plain_name s.domain (names s.domain p.known))
    (plain_name t.domain (names t.domain q.known)) (sym p.is ∙ q.is) in
    let parts = one_word (outcome_text s.ok) (outcome_text t.ok) (signed_decimal s.seconds) (signed_decimal t.seconds)
    (plain_outcome s.ok) (plain_outcome t.ok) words.1 in
    let ok : s.ok ≡ t.ok = one_outcome s.ok t.ok parts.0 in
    let seconds : s.seconds ≡ t.seconds = one_text s.seconds t.seconds p.within q.within parts.1 in
    λ i. record { domain = words.0 i; ok = ok i; seconds = seconds i }

-- a line says one poll at most
one_poll : (domains : List (List ℕ)) (text : List ℕ) (p q : Poll) → AreNames domains → SaysPoll domains text p → SaysPoll domains text q → p ≡ q
one_poll domains text p q names a b = a.is ∙ ap poll_of (one_stated domains text a.said b.said names a.says b.says) ∙ sym b.is

-- lines say one list of polls at most
one_list : (domains : List (List ℕ)) (lines : List (List ℕ)) (ps qs : List Poll) → AreNames domains
    → AllZip (SaysPoll domains) lines ps → AllZip (SaysPoll domains) lines qs → ps ≡ qs
one_list domains [] [] [] names a b = refl
one_list domains [] (p ∷ ps) qs names a b = absurd a
one_list domains [] [] (q ∷ qs) names a b = absurd b
one_list domains (l ∷ ls) [] qs names a b = absurd a
one_list domains (l ∷ ls) (p ∷ ps) [] names a b = absurd b
one_list domains (l ∷ ls) (p ∷ ps) (q ∷ qs) names a b = ap₂ (λ x l. x ∷ l) (one_poll domains l p q names a.0 b.0) (one_list domains ls ps qs names a.1 b.1)

-- the domains that a configuration polls are domain names
names_in : (c : Configuration) → IsConfiguration c → AreNames (polled c)
names_in c form = each_name c.relationships form.each_relationship

-- bytes have one log at most, as `laws::one_log` says
pub one_log : (c : Configuration) (bytes : List ℕ) (a b : List PollStatus) → IsConfiguration c → IsLogOf (polled c) bytes a → IsLogOf (polled c) bytes b → a ≡ b
one_log c bytes a b form p q =
    p.is ∙ ap (log_of (polled c)) (one_list (polled c) (lines_of bytes).whole p.polls q.polls (names_in c form) p.say
    q.say) ∙ sym q.is

-- the line after the front says a poll too
said_there : (domains : List (List ℕ)) (front : List (List ℕ)) (text : List ℕ) (later : List (List ℕ)) (ps : List Poll)
    → AllZip (SaysPoll domains) (front ++ text ∷ later) ps → (p : Poll) × SaysPoll domains text p
said_there domains [] text later [] say = absurd say
said_there domains [] text later (p ∷ ps) say = (p, say.0)
said_there domains (l ∷ front) text later [] say = absurd say
said_there domains (l ∷ front) text later (p ∷ ps) say = said_there domains front text later ps say.1

-- if bytes have a log, also the line with the error says a poll
found : (domains : List (List ℕ)) (bytes : List ℕ) (log : List PollStatus) (n : ℕ) (Fault : List ℕ → Type 0)
    → (bad : FirstBad domains (lines_of bytes).whole n Fault) → IsLogOf domains bytes log
    → (p : Poll) × SaysPoll domains bad.text p
found domains bytes log n Fault bad is =
    said_there domains bad.front bad.text bad.later is.polls
    (subst (λ ls. AllZip (SaysPoll domains) ls is.polls) bad.whole is.say)

-- bytes that are refused, other than for memory or a failure of the source, have no log, as
-- `laws::one_log` says
pub no_log : (c : Configuration) (bytes : List ℕ) (e : PollError) (log : List PollStatus) → IsConfiguration c
    → RefusesPolls (polled c) bytes e → (e ≡ NoMemory → ⊥) → (e ≡ Io → ⊥) → IsLogOf (polled c) bytes log → ⊥
no_log c bytes NoMemory log form refused memory io is = memory refl
no_log c bytes Io log form refused memory io is = io refl
no_log c bytes NoRelationship log form refused memory io is = refused
no_log c bytes PastRange log form refused memory io is = refused
no_log c bytes (BadLine n) log form refused memory io is = elim refused [
  | inl bad ↦ let said = found (polled c) bytes log n (SaysNoPoll (polled c)) bad is in bad.bad said.1.said said.1.says
  | inr cut ↦ cut.more is.ended
]
no_log c bytes (BadMoment n) log form refused memory io is =
    let said = found (polled c) bytes log n (SaysNoMoment (polled c)) refused is in
    let same : said.1.said ≡ refused.bad.said =
    one_stated (polled c) refused.text said.1.said refused.bad.said (names_in c form) said.1.says refused.bad.says
    in
    refused.bad.past (subst HasMoment same said.1.moment)
