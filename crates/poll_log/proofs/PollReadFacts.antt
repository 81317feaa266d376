-- Polls that are read line by line
use Rattle.std.proofs.Common.{◌≡◌, ℕ, Bool, true, false, ◌+◌, ◌<◌, ◌≤◌, inl, inr, List, [], ◌∷◌, ◌++◌, length, Option}
use Rattle.std.proofs.Common.{None, Some, IfSome, Err, refl, sym, ap, ◌∙◌, subst, arith, append_assoc, append-nil}
use Rattle.std.proofs.Common.{length-append}
use Rattle.std.specs.List.{AllZip}
use Rattle.std.specs.Fmt.{signed_decimal}
use Rattle.std.specs.Io.KnownBytes.{IsAtEnd, prepend_known}
use Rattle.fed_config.specs.Configuration.{Configuration, IsConfiguration}
use Rattle.byte_lines.specs.Lines.{Lines, lines_of, with_line, HasLine, HasNoLine, HasMore}
use Rattle.byte_lines.proofs.StreamFacts.{lines_of-line, lines_of-rest}
use Rattle.poll_log.specs.Polling.{Poll, PollStatus, polled_domains, log_of, polled}
use Rattle.poll_log.specs.Inside.Statuses.{AreNames}
use Rattle.poll_log.specs.PollLines.{FirstBad, IsLogOf, RefusesPolls, SaysPoll, SaysLine, SaysNoMoment, SaysNoPoll, outcome_text, poll_of}
use Rattle.poll_log.specs.Inside.PollSteps.{AddsLine, HasRead, ReadTo, RecordsLine}
use Rattle.poll_log.specs.declared.error.PollError.TheVariants.{NoRelationship, PastRange, NoMemory, BadLine, BadMoment, Io}
use Rattle.poll_log.specs.declared.error.PollError.{PollError}
use Rattle.poll_log.proofs.PollFacts.{domains_of-log, each_name}
use Rattle.poll_log.proofs.SecondsFacts.{length-seconds}

-- one more of each, side by side
zip_more : {X Y : Type 0} (R : X → Y → Type 0) (xs : List X) (ys : List Y) (x : X) (y : Y) → AllZip R xs ys → R x y → AllZip R (xs ++ x ∷ []) (ys ++ y ∷ [])
zip_more R [] [] x y zip one = (one, tt)
zip_more R [] (b ∷ ys) x y zip one = absurd zip
zip_more R (a ∷ xs) [] x y zip one = absurd zip
zip_more R (a ∷ xs) (b ∷ ys) x y zip one = (zip.0, zip_more R xs ys x y zip.1 one)

-- ---- the beginning

-- before the first line no poll is read
begin : (domains : List (List ℕ)) (a : Option (List ℕ)) → ReadTo domains a (prepend_known [] a) [] 0
begin domains None = tt
begin domains (Some xs) = record { front = []; say = tt; whole = refl; rest = refl; counted = refl }

-- before the first line the log is that of no polls
pub HasRead-none : (domains : List (List ℕ)) (a : Option (List ℕ)) (log : List PollStatus) → log ≡ log_of domains []
    → HasRead domains a (prepend_known [] a) log 0
HasRead-none domains a log is = record { polls = []; is = is; lines = begin domains a }

-- ---- one more line

-- the first line of bytes comes before the lines of what follows it
first_line : (ys zs text : List ℕ) → HasLine (Some ys) (Some zs) text → lines_of ys ≡ with_line text (lines_of zs)
first_line ys zs text line = ap lines_of line.1 ∙ lines_of-line text zs line.0

-- one more line was read, which says a poll
passed : (domains : List (List ℕ)) (a b c : Option (List ℕ)) (polls : List Poll) (n : ℕ) (text : List ℕ) (p : Poll)
    → ReadTo domains a b polls n → HasLine b c text → SaysPoll domains text p
    → ReadTo domains a c (polls ++ p ∷ []) (n + 1)
passed domains None b c polls n text p read line says = tt
passed domains (Some xs) None c polls n text p read line says = absurd read
passed domains (Some xs) (Some ys) None polls n text p read line says = absurd line.1
passed domains (Some xs) (Some ys) (Some zs) polls n text p read line says =
    let first = first_line ys zs text line in
    record {
      front = read.front ++ text ∷ [];
      say = zip_more (SaysPoll domains) read.front polls text p read.say says;
      whole = read.whole ∙ ap (λ (l : Lines). read.front ++ l.whole) first ∙ sym (append_assoc read.front (text ∷ []) (lines_of zs).whole);
      rest = read.rest ∙ ap (λ (l : Lines). l.rest) first;
      counted = omega (arith, read.counted, length-append read.front (text ∷ []));
    }

-- one more line was recorded: the step of the loop in `read_polls`
pub HasRead-line : (domains : List (List ℕ)) (a b c : Option (List ℕ)) (old new : List PollStatus) (n : ℕ) (text : List ℕ)
    → HasRead domains a b old n → HasLine b c text → AddsLine old text new → HasRead domains a c new (n + 1)
HasRead-line domains a b c old new n text read line added =
    let own : polled_domains old ≡ domains = ap polled_domains read.is ∙ domains_of-log domains read.polls in
    record {
      polls = read.polls ++ poll_of added.said ∷ [];
      is = added.adds domains read.polls read.is;
      lines = passed domains a b c read.polls n text (poll_of added.said) read.lines line
          (record { said = added.said; says = subst (λ ds. SaysLine ds text added.said) own added.says; moment = added.moment; is = refl });
    }

-- a log that is read keeps the domains that it began with
pub own_domains : (domains : List (List ℕ)) (a b : Option (List ℕ)) (log : List PollStatus) (n : ℕ) → HasRead domains a b log n → polled_domains log ≡ domains
own_domains domains a b log n read = ap polled_domains read.is ∙ domains_of-log domains read.polls

-- ---- the first bad line

-- a line with an error after lines that say polls is the first bad one
bad : (domains : List (List ℕ)) (a b c : Option (List ℕ)) (log : List PollStatus) (n : ℕ) (text : List ℕ) (Fault : List ℕ
    → Type 0) → HasRead domains a b log n → HasLine b c text → Fault text
    → IfSome a (λ xs. FirstBad domains (lines_of xs).whole (n + 1) Fault)
bad domains None b c log n text Fault read line fault = tt
bad domains (Some xs) None c log n text Fault read line fault = absurd read.lines
bad domains (Some xs) (Some ys) None log n text Fault read line fault = absurd line.1
bad domains (Some xs) (Some ys) (Some zs) log n text Fault read line fault =
    let first = first_line ys zs text line in
    record {
      front = read.lines.front;
      polls = read.polls;
      say = read.lines.say;
      text = text;
      later = (lines_of zs).whole;
      whole = read.lines.whole ∙ ap (λ (l : Lines). read.lines.front ++ l.whole) first;
      bad = fault;
      counted = omega (arith, read.lines.counted);
    }

-- what follows from a property of bytes holds also if a source does not report them
if_some : (a : Option (List ℕ)) (P Q : List ℕ → Type 0) → ((xs : List ℕ) → P xs → Q xs) → IfSome a P → IfSome a Q
if_some None P Q f h = tt
if_some (Some xs) P Q f h = f xs h

-- a line that says of no poll refuses the bytes, by its number
pub RefusesPolls-line : (domains : List (List ℕ)) (a b c : Option (List ℕ)) (log : List PollStatus) (n : ℕ)
    (text : List ℕ) → HasRead domains a b log n → HasLine b c text → SaysNoPoll (polled_domains log) text
    → IfSome a (λ xs. RefusesPolls domains xs (BadLine (n + 1)))
RefusesPolls-line domains a b c log n text read line nothing =
    if_some a _ _ (λ xs first. inl first)
    (bad domains a b c log n text (SaysNoPoll domains) read line (subst (λ ds. SaysNoPoll ds text) (own_domains domains a b log n read) nothing))

-- a line that says of a poll at a time outside the range refuses the bytes, by its number
pub RefusesPolls-moment : (domains : List (List ℕ)) (a b c : Option (List ℕ)) (log : List PollStatus) (n : ℕ)
    (text : List ℕ) → HasRead domains a b log n → HasLine b c text → SaysNoMoment (polled_domains log) text
    → IfSome a (λ xs. RefusesPolls domains xs (BadMoment (n + 1)))
RefusesPolls-moment domains a b c log n text read line none =
    bad domains a b c log n text (SaysNoMoment domains) read line (subst (λ ds. SaysNoMoment ds text) (own_domains domains a b log n read) none)

-- the text of an outcome has four bytes at most
length-outcome : (ok : Bool) → length (outcome_text ok) ≤ 4
length-outcome true = omega arith
length-outcome false = omega arith

-- a poll's line has a name, an outcome and a number, so one that is too long for a line says of no
-- poll
pub too_long : (domains : List (List ℕ)) (text : List ℕ) → AreNames domains → 8388608 < length text → SaysNoPoll domains text
too_long domains text names long t says =
    let name = (names t.domain says.known).limit in
    let seconds = length-seconds t.seconds says.within in
    let outcome = length-outcome t.ok in
    omega (
      arith,
      ap length says.is,
      length-append t.domain
          (32 ∷ (outcome_text t.ok ++ (32 ∷ signed_decimal t.seconds))),
      length-append (outcome_text t.ok) (32 ∷ signed_decimal t.seconds),
    )

-- ---- the end

-- bytes after the last line feed refuse the bytes
pub RefusesPolls-cut : (domains : List (List ℕ)) (a b : Option (List ℕ)) (log : List PollStatus) (n : ℕ)
    → HasRead domains a b log n → HasNoLine b → HasMore b → IfSome a (λ xs. RefusesPolls domains xs (BadLine (n + 1)))
RefusesPolls-cut domains None b log n read none more = tt
RefusesPolls-cut domains (Some xs) None log n read none more = absurd read.lines
RefusesPolls-cut domains (Some xs) (Some ys) log n read none more =
    let rest : lines_of ys ≡ record { whole = []; rest = ys } = lines_of-rest ys none in
    let whole : (lines_of xs).whole ≡ read.lines.front =
    read.lines.whole ∙ ap (λ (l : Lines). read.lines.front ++ l.whole) rest ∙ append-nil read.lines.front in
    inr (record {
      polls = read.polls;
      say = subst (λ ls. AllZip (SaysPoll domains) ls read.polls) (sym whole) read.lines.say;
      more = λ (empty : (lines_of xs).rest ≡ []). omega (arith, more, ap length (sym (ap (λ (l : Lines). l.rest) rest) ∙ sym read.lines.rest ∙ empty));
      counted = omega (arith, read.lines.counted, ap length whole);
    })

-- at the end of the stream the log is that of all its lines
pub IsLogOf-end : (domains : List (List ℕ)) (a b : Option (List ℕ)) (log : List PollStatus) (n : ℕ)
    → HasRead domains a b log n → IsAtEnd b → IfSome a (λ xs. IsLogOf domains xs log)
IsLogOf-end domains None b log n read end = tt
IsLogOf-end domains (Some xs) None log n read end = absurd read.lines
IsLogOf-end domains (Some xs) (Some ys) log n read end =
    let rest : lines_of ys ≡ record { whole = []; rest = [] } = ap lines_of end in
    let whole : (lines_of xs).whole ≡ read.lines.front =
    read.lines.whole ∙ ap (λ (l : Lines). read.lines.front ++ l.whole) rest ∙ append-nil read.lines.front in
    record {
      polls = read.polls;
      say = subst (λ ls. AllZip (SaysPoll domains) ls read.polls) (sym whole) read.lines.say;
      ended = read.lines.rest ∙ ap (λ (l : Lines). l.rest) rest;
      is = read.is;
    }

-- a stream at its end has its source there
pub IsAtEnd-source : (kept : List ℕ) (a : Option (List ℕ)) → IsAtEnd (prepend_known kept a) → IsAtEnd a
IsAtEnd-source kept None end = tt
IsAtEnd-source [] (Some xs) end = end
IsAtEnd-source (b ∷ kept) (Some xs) end = cc

-- ---- the refusals of a line

-- what `record_line` refuses a line for refuses the bytes
pub RefusesPolls-record : (domains : List (List ℕ)) (a b c : Option (List ℕ)) (log new : List PollStatus) (n : ℕ)
    (text : List ℕ) (e : PollError) → HasRead domains a b log n → HasLine b c text
    → RecordsLine log text (n + 1) new (Err e)
    → IfSome a (λ xs. RefusesPolls domains xs e)
RefusesPolls-record domains a b c log new n text (BadLine m) read line refused =
    subst (λ k. IfSome a (λ xs. RefusesPolls domains xs (BadLine k))) (sym refused.0) (RefusesPolls-line domains a b c log n text read line refused.1)
RefusesPolls-record domains a b c log new n text (BadMoment m) read line refused =
    subst (λ k. IfSome a (λ xs. RefusesPolls domains xs (BadMoment k))) (sym refused.0) (RefusesPolls-moment domains a b c log n text read line refused.1)
RefusesPolls-record domains a b c log new n text NoRelationship read line refused = absurd refused
RefusesPolls-record domains a b c log new n text PastRange read line refused = absurd refused
RefusesPolls-record domains a b c log new n text NoMemory read line refused = absurd refused
RefusesPolls-record domains a b c log new n text Io read line refused = absurd refused

-- a line that is too long refuses the bytes
pub RefusesPolls-long : (config : Configuration) (a b c : Option (List ℕ)) (log : List PollStatus) (n : ℕ) (text : List ℕ)
    → IsConfiguration config → HasRead (polled config) a b log n → HasLine b c text → 8388608 < length text
    → IfSome a (λ xs. RefusesPolls (polled config) xs (BadLine (n + 1)))
RefusesPolls-long config a b c log n text form read line long =
    let own : polled_domains log ≡ polled config = own_domains (polled config) a b log n read in
    RefusesPolls-line (polled config) a b c log n text read line
    (too_long (polled_domains log) text (subst AreNames (sym own) (each_name config.relationships form.each_relationship)) long)
